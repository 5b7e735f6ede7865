-- Prefixes are declared in front of the keyword Ontology, and behind it none is (Structural Specification, section 3.7).
use Rattle.std.proofs.Common.{◌≡◌, ℕ, Bool, true, false, not, List, [], ◌∷◌, ◌++◌}
use Rattle.std.specs.Prelude.{◌==◌, ◌||◌}
use Rattle.grammar.specs.Derivations.{Event}
use Rattle.grammar.specs.Derivations.Event.{Do, Take}
use Rattle.grammar.specs.Grammars.Among.{behind}
use Rattle.fss_grammar.specs.Acts.{act_number}
use Rattle.fss_grammar.specs.Classes.{Class, class_number}
use Rattle.fss_grammar.specs.declared.acts.Act.TheVariants.{DeclareIri, DeclareName, EndItem}

-- an act that declares a prefix
abbrev pub declares : ℕ → Bool
declares a = (a == act_number DeclareName) || (a == act_number DeclareIri)

-- an act of a declaration, whose end is that of any item
abbrev pub is_of_declaration : ℕ → Bool
is_of_declaration a = declares a || (a == act_number EndItem)

-- the class of the keyword Ontology
abbrev pub is_ontology : ℕ → Bool
is_ontology c = c == class_number Class.ontology

-- the classes of the tokens that are taken, and the acts, pass these tests
abbrev pub EventsPass : {X : Type 0} → (X → ℕ) → (ℕ → Bool) → (ℕ → Bool) → List (Event X) → Type 0
EventsPass class_of words acts [] = Unit {0}
EventsPass class_of words acts (Take x ∷ es) = (words (class_of x) ≡ true) × EventsPass class_of words acts es
EventsPass class_of words acts (Do a ∷ es) = (acts a ≡ true) × EventsPass class_of words acts es

-- there is no keyword Ontology among the events, and no act but those of declarations
abbrev pub OnlyDeclare : {X : Type 0} → (X → ℕ) → List (Event X) → Type 0
OnlyDeclare class_of es = EventsPass class_of (λ c. not (is_ontology c)) is_of_declaration es

abbrev pub DeclareNothing : {X : Type 0} → List (Event X) → Type 0
DeclareNothing [] = Unit {0}
DeclareNothing (Take x ∷ es) = DeclareNothing es
DeclareNothing (Do a ∷ es) = (declares a ≡ false) × DeclareNothing es

-- There is a keyword Ontology; in front of it there is nothing but declarations, and behind it there are none.
pub record OntologyBehind {X : Type 0} (class_of : X → ℕ) (xs : List X) (es : List (Event X)) : Type 0 where
  pub front_tokens : List X
  pub front_events : List (Event X)
  pub word : X
  pub back_tokens : List X
  pub back_events : List (Event X)
  pub tokens_are : xs ≡ front_tokens ++ word ∷ back_tokens
  pub events_are : es ≡ front_events ++ Take word ∷ back_events
  pub class : class_of word ≡ class_number Class.ontology
  pub front : OnlyDeclare class_of front_events
  pub back : DeclareNothing back_events
