-- What derives from a grammar.
use Rattle.std.specs.Prelude.{◌≡◌, ℕ, List, [], ◌∷◌, ◌++◌}
use Rattle.grammar.specs.Grammars.{Among, Entry, Row, entry}
use Rattle.grammar.specs.declared.symbol.Symbol.{Symbol}
use Rattle.grammar.specs.declared.symbol.Symbol.TheVariants.{Act, Need, Rule}

-- what a reader does on its way along a derivation: it takes a token, or does an act
pub data Event (X : Type 0) : Type 0 where
  Take : X → Event X
  Do : ℕ → Event X

-- These symbols derive these tokens, with these events in order. A rule stands for the symbols of one of its alternatives.
pub data DerivesOf {X : Type 0} (class_of : X → ℕ) (g : List Entry) : List Symbol → List X → List (Event X) → Type 0 where
  nothing : DerivesOf class_of g [] [] []
  need : {c : ℕ} {ss : List Symbol} {x : X} {xs : List X} {es : List (Event X)} → class_of x ≡ c → DerivesOf class_of g ss xs es → DerivesOf class_of g (Need c ∷ ss) (x ∷ xs) (Take x ∷ es)
  act : {a : ℕ} {ss : List Symbol} {xs : List X} {es : List (Event X)} → DerivesOf class_of g ss xs es → DerivesOf class_of g (Act a ∷ ss) xs (Do a ∷ es)
  rule : {r : ℕ} {ss : List Symbol} {xs : List X} {es : List (Event X)} (row : Row) → Among row (entry g r).rows → DerivesOf class_of g (row.symbols ++ ss) xs es → DerivesOf class_of g (Rule r ∷ ss) xs es

-- a token that is no more than its class
abbrev pub own_class : ℕ → ℕ
own_class class = class

-- the same of tokens that are their classes
abbrev pub Derives : List Entry → List Symbol → List ℕ → List (Event ℕ) → Type 0
Derives = DerivesOf own_class

-- some tokens derive from these symbols
pub record Lives (g : List Entry) (ss : List Symbol) : Type 0 where
  pub tokens : List ℕ
  pub events : List (Event ℕ)
  pub derives : Derives g ss tokens events

-- some tokens that derive from these symbols begin with these
pub record Begins (g : List Entry) (ss : List Symbol) (front : List ℕ) : Type 0 where
  pub more : List ℕ
  pub events : List (Event ℕ)
  pub derives : Derives g ss (front ++ more) events
