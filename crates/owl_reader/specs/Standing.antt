-- What was made of tokens, one by one, and what comes of the next.
use Rattle.std.specs.Prelude.{◌≡◌, ℕ, List, [], ◌∷◌, ◌++◌, map, Option, None, Some}
use Rattle.grammar.specs.Derivations.{DerivesOf}
use Rattle.grammar.specs.Derivations.Event.{Do}
use Rattle.grammar.specs.Grammars.{Entry}
use Rattle.grammar.specs.Parsing.{Parsing}
use Rattle.grammar.specs.TokenFeeding.{FedTokens}
use Rattle.grammar.specs.declared.symbol.Symbol.TheVariants.{Rule}
use Rattle.owl_lexer.specs.declared.placed.Placed.{Placed}
use Rattle.owl_reader.specs.Defects.{Begin, IsRefused, NoneBarred}
use Rattle.owl_reader.specs.Items.{last_item}
use Rattle.owl_reader.specs.Steps.{Step, events_of, plain, tokens_in}
use Rattle.owl_reader.specs.Syntaxes.{Rules}
use Rattle.owl_reader.specs.declared.fault.ReadFault.{ReadFault}
use Rattle.owl_reader.specs.declared.fault.TokenFault.{TokenFault}
use Rattle.owl_reader.specs.declared.item.Item.{Item}

-- These steps were taken: the parser expects what follows them, this was made by them, and this is the last item.
pub record Stands {T S : Type 0} (g : List Entry) (rules : Rules T) (Made : List (Step T) → S → Type 0) (parsing : Parsing) (made : S) (last : Option Item) (steps : List (Step T)) : Type 0 where
  pub open_yet : parsing.refused ≡ None
  pub fed : FedTokens rules.class g (Rule rules.document ∷ []) (plain steps) (events_of steps) parsing.expected
  pub none_barred : NoneBarred rules steps
  pub made_by : Made steps made
  pub last_is : last ≡ last_item rules steps

-- some steps were taken
pub record CanStand {T S : Type 0} (g : List Entry) (rules : Rules T) (Made : List (Step T) → S → Type 0) (parsing : Parsing) (made : S) (last : Option Item) : Type 0 where
  pub steps : List (Step T)
  pub stands : Stands g rules Made parsing made last steps

-- the same with these tokens more
pub record StandsWith {T S : Type 0} (g : List Entry) (rules : Rules T) (Made : List (Step T) → S → Type 0) (parsing : Parsing) (made : S) (last : Option Item) (steps : List (Step T)) (tokens : List (Placed T)) : Type 0 where
  pub more : List (Step T)
  pub are : tokens_in more ≡ tokens
  pub stands : Stands g rules Made parsing made last (steps ++ more)

-- Of these tokens behind the steps one is refused, and those before it are taken.
pub record IsRefusedAmong {T : Type 0} (g : List Entry) (rules : Rules T) (steps : List (Step T)) (tokens : List (Placed T)) (refusal : ReadFault) : Type 0 where
  pub more : List (Step T)
  pub token : Placed T
  pub others : List (Placed T)
  pub are : tokens ≡ tokens_in more ++ token ∷ others
  pub begin : Begin g rules (steps ++ more)
  pub refused : IsRefused g rules (steps ++ more) token.at (Some token) refusal

-- The steps are a whole document, with these last acts.
pub record Ends {T S : Type 0} (g : List Entry) (rules : Rules T) (Whole : List (Step T) → List ℕ → S → Type 0) (made : S) (steps : List (Step T)) : Type 0 where
  pub acts : List ℕ
  pub derives : DerivesOf rules.class g (Rule rules.document ∷ []) (plain steps) (events_of steps ++ map Do acts)
  pub made_by : Whole steps acts made
  pub free : (f : TokenFault) → rules.Bars steps acts None f → ⊥
