-- What derives from a grammar rule by rule, and what a rule means.
use Rattle.std.specs.Prelude.{◌≡◌, ℕ, List, [], ◌∷◌, ◌++◌}
use Rattle.grammar.specs.Derivations.{Event}
use Rattle.grammar.specs.Derivations.Event.{Do, Take}
use Rattle.grammar.specs.Grammars.{Among, Entry, Row, entry}
use Rattle.grammar.specs.declared.symbol.Symbol.{Symbol}
use Rattle.grammar.specs.declared.symbol.Symbol.TheVariants.{Act, Need, Rule}

-- These symbols derive these tokens with these events, and each rule among them derives a part of its own.
pub data Yields {X : Type 0} (class_of : X → ℕ) (g : List Entry) : List Symbol → List X → List (Event X) → Type 0 where
  empty : Yields class_of g [] [] []
  token : {c : ℕ} {ss : List Symbol} {x : X} {xs : List X} {es : List (Event X)} → class_of x ≡ c → Yields class_of g ss xs es → Yields class_of g (Need c ∷ ss) (x ∷ xs) (Take x ∷ es)
  action : {a : ℕ} {ss : List Symbol} {xs : List X} {es : List (Event X)} → Yields class_of g ss xs es → Yields class_of g (Act a ∷ ss) xs (Do a ∷ es)
  part : {r : ℕ} {ss : List Symbol} (row : Row) (xs ys : List X) (es fs : List (Event X)) → Among row (entry g r).rows → Yields class_of g row.symbols xs es → Yields class_of g ss ys fs → Yields class_of g (Rule r ∷ ss) (xs ++ ys) (es ++ fs)

-- tokens and events in two parts
pub record InParts {X : Type 0} (First Second : List X → List (Event X) → Type 0) (xs : List X) (es : List (Event X)) : Type 0 where
  pub front_tokens : List X
  pub back_tokens : List X
  pub front_events : List (Event X)
  pub back_events : List (Event X)
  pub tokens_are : xs ≡ front_tokens ++ back_tokens
  pub events_are : es ≡ front_events ++ back_events
  pub front : First front_tokens front_events
  pub back : Second back_tokens back_events

-- a token of a class, and what follows it
pub record TokenThen {X : Type 0} (class_of : X → ℕ) (c : ℕ) (Then : List X → List (Event X) → Type 0) (xs : List X) (es : List (Event X)) : Type 0 where
  pub token : X
  pub more_tokens : List X
  pub more_events : List (Event X)
  pub tokens_are : xs ≡ token ∷ more_tokens
  pub events_are : es ≡ Take token ∷ more_events
  pub class : class_of token ≡ c
  pub more : Then more_tokens more_events

-- an act, and what follows it
pub record ActThen {X : Type 0} (a : ℕ) (Then : List X → List (Event X) → Type 0) (xs : List X) (es : List (Event X)) : Type 0 where
  pub more_events : List (Event X)
  pub events_are : es ≡ Do a ∷ more_events
  pub more : Then xs more_events

pub record Nothing {X : Type 0} (xs : List X) (es : List (Event X)) : Type 0 where
  pub tokens_are : xs ≡ []
  pub events_are : es ≡ []

-- what symbols mean, where each rule means this
abbrev pub Means : {X : Type 0} (class_of : X → ℕ) (meaning : ℕ → List X → List (Event X) → Type 0) → List Symbol → List X → List (Event X) → Type 0
Means class_of meaning [] xs es = Nothing xs es
Means class_of meaning (Need c ∷ ss) xs es = TokenThen class_of c (Means class_of meaning ss) xs es
Means class_of meaning (Act a ∷ ss) xs es = ActThen a (Means class_of meaning ss) xs es
Means class_of meaning (Rule r ∷ ss) xs es = InParts (meaning r) (Means class_of meaning ss) xs es

-- what an alternative of a rule means is what the rule means
pub record IsMeaning {X : Type 0} (class_of : X → ℕ) (g : List Entry) (meaning : ℕ → List X → List (Event X) → Type 0) : Type 0 where
  pub row : (r : ℕ) (row : Row) → Among row (entry g r).rows → (xs : List X) (es : List (Event X)) → Means class_of meaning row.symbols xs es → meaning r xs es
