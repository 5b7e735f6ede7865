-- What a document of Turtle says (RDF 1.1 Turtle, sections 6 and 7).
use Rattle.std.specs.Prelude.{◌≡◌, ◌≤◌, ℕ, List, [], ◌∷◌, length, map, Option, None, Ok}
use Rattle.grammar.specs.Derivations.{DerivesOf, Event}
use Rattle.grammar.specs.declared.symbol.Symbol.TheVariants.{Rule}
use Rattle.owl_atom.specs.Prefixes.{iri_of}
use Rattle.owl_atom.specs.declared.prefixes.Prefix.{Prefix}
use Rattle.owl_characters.specs.Limit.{most_bytes}
use Rattle.owl_lexer.specs.Splitting.{Splits}
use Rattle.owl_lexer.specs.declared.placed.Placed.{Placed}
use Rattle.owl_reader.specs.Defects as defects
use Rattle.owl_reader.specs.declared.fault.ReadFault.{ReadFault}
use Rattle.rdf_graph.specs.Graphs.{most_triples}
use Rattle.rdf_graph.specs.declared.triple.Triple.{Triple}
use Rattle.ttl_tokens.specs.TurtleSpellings as tokens
use Rattle.ttl_tokens.specs.declared.token.Token.{Token}
use Rattle.ttl_grammar.specs.Classes.{class_of}
use Rattle.ttl_grammar.specs.Labels.{graph_of}
use Rattle.ttl_grammar.specs.Page.{turtle_page}
use Rattle.ttl_grammar.specs.Rules.{turtle_rules}
use Rattle.ttl_grammar.specs.Runs.{run}
use Rattle.ttl_grammar.specs.States.{Namespace, State, namespace_in, start}

-- a table of prefixes has the IRI that was declared last for each of them
abbrev pub AreNamespaces : List Prefix → List Namespace → Type 0
AreNamespaces prefixes namespaces = (name : List ℕ) → iri_of prefixes name ≡ namespace_in namespaces name

-- Against this base IRI, if there is one, these tokens are a document that leaves these prefixes and says this graph: they derive
-- by the grammar, and the acts of the derivation, done in turn, state its triples.
pub record SpellsTurtle (base : Option (List ℕ)) (prefixes : List Prefix) (graph : List Triple) (tokens : List Token) : Type 0 where
  pub events : List (Event Token)
  pub state : State
  pub derives : DerivesOf class_of turtle_page (Rule (turtle_rules base).document ∷ []) tokens events
  pub states : run events (start base) ≡ Ok state
  pub namespaces : AreNamespaces prefixes state.names.namespaces
  pub graph_is : graph ≡ graph_of state.facts.triples
  pub few : length graph ≤ most_triples

abbrev pub tokens_of : List (Placed Token) → List Token
tokens_of placed = map (λ (p : Placed Token). p.token) placed

-- the bytes are such a document
pub record ReadsTurtle (base : Option (List ℕ)) (bytes : List ℕ) (prefixes : List Prefix) (graph : List Triple) : Type 0 where
  pub placed : List (Placed Token)
  pub few : length bytes ≤ most_bytes
  pub splits : Splits tokens.Spells bytes placed None
  pub spells : SpellsTurtle base prefixes graph (tokens_of placed)

-- the first defect of bytes that are none
abbrev pub IsFirstDefect : Option (List ℕ) → List ℕ → ReadFault → Type 0
IsFirstDefect base bytes fault = defects.IsFirstDefect tokens.Spells turtle_page (turtle_rules base) bytes fault
