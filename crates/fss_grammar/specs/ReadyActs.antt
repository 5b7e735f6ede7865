-- That the acts of a document find what they need.
use Rattle.std.specs.Prelude.{◌≡◌, ℕ, List, [], ◌∷◌, ◌++◌, map, None, Option, Some}
use Rattle.std.specs.Option.{option_map}
use Rattle.grammar.specs.Derivations.{Derives, Event}
use Rattle.grammar.specs.Derivations.Event.{Do, Take}
use Rattle.grammar.specs.Lowering.{lower}
use Rattle.grammar.specs.Parsing.{Ends, Feeds, Parsing}
use Rattle.grammar.specs.TokenFeeding.{FedTokens}
use Rattle.grammar.specs.declared.symbol.Symbol.{Symbol}
use Rattle.grammar.specs.declared.symbol.Symbol.TheVariants.{Rule}
use Rattle.owl_tokens.specs.declared.token.Token.{Token}
use Rattle.fss_grammar.specs.Acts.{act_number}
use Rattle.fss_grammar.specs.Classes.{class_of}
use Rattle.fss_grammar.specs.Making.{Maker}
use Rattle.fss_grammar.specs.Outlines.{Resembles}
use Rattle.fss_grammar.specs.Page.{rule_number}
use Rattle.fss_grammar.specs.Page.Rule.{document}
use Rattle.fss_grammar.specs.Ready.{IsReady}
use Rattle.fss_grammar.specs.Table.{functional}
use Rattle.fss_grammar.specs.declared.acts.Act.{Act}

-- the class of the token that is taken next
abbrev pub next_class : List (Event ℕ) → Option ℕ
next_class [] = None
next_class (Take class ∷ events) = Some class
next_class (Do a ∷ events) = next_class events

-- The act of this number finds what it needs, whichever token of the class that is next comes behind it; or none does.
pub record IsActReady (a : ℕ) (class : Option ℕ) (m : Maker) : Type 0 where
  pub act : Act
  pub number_is : act_number act ≡ a
  pub ready : (next : Option Token) → option_map class_of next ≡ class → IsReady act next m

-- a document comes
abbrev pub document_comes : List Symbol
document_comes = Rule (rule_number document) ∷ []

-- Along each derivation of a document, where the acts before were performed, the next act finds what it needs.
abbrev pub ActsAreReady : Type 0
ActsAreReady =
    (classes : List ℕ) (events : List (Event ℕ)) → Derives functional document_comes classes events →
    (before : List (Event Token)) (a : ℕ) (rest : List (Event ℕ)) → events ≡ map (lower class_of) before ++ Do a ∷ rest →
    (m : Maker) → Resembles before m → IsActReady a (next_class rest) m

-- the act of this number finds what it needs, where this token comes behind it
pub record FindsAll (a : ℕ) (next : Option Token) (m : Maker) : Type 0 where
  pub act : Act
  pub number_is : act_number act ≡ a
  pub ready : IsReady act next m

-- The same of a parser: the acts that it gives in front of a token, and at the end, find what they need, each where those
-- before it were performed.
abbrev pub FedActsAreReady : Type 0
FedActsAreReady =
    (tokens : List Token) (events : List (Event Token)) (old new : Parsing) (x : Token) (before after : List ℕ) →
    FedTokens class_of functional document_comes tokens events old.expected → (f : Feeds functional old (class_of x) before new after) →
    (performed : List ℕ) (a : ℕ) (left : List ℕ) → f.given ≡ performed ++ a ∷ left →
    (m : Maker) → Resembles (events ++ map Do performed) m → FindsAll a (Some x) m

abbrev pub LastActsAreReady : Type 0
LastActsAreReady =
    (tokens : List Token) (events : List (Event Token)) (old new : Parsing) (before after : List ℕ) →
    FedTokens class_of functional document_comes tokens events old.expected → (e : Ends functional old before new after) →
    (performed : List ℕ) (a : ℕ) (left : List ℕ) → e.given ≡ performed ++ a ∷ left →
    (m : Maker) → Resembles (events ++ map Do performed) m → FindsAll a None m
