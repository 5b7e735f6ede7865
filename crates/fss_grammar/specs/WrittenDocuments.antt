-- Documents that are written for an ontology, as tokens that derive from the grammar (Structural Specification, section 3.7).
use Rattle.std.proofs.Common.{◌≡◌, List, [], ◌∷◌, ◌++◌, flat_map}
use Rattle.grammar.specs.Derivations.{DerivesOf}
use Rattle.owl_atom.specs.declared.prefixes.Prefix.{Prefix}
use Rattle.owl_tokens.specs.declared.token.Token.{Token}
use Rattle.owl_tree.specs.declared.row.Sort.{Sort}
use Rattle.owl_tree.specs.Ontologies.{Ontology}
use Rattle.owl_tree.specs.Trees.{Tree}
use Rattle.fss_terms.specs.Functional.{IsWrittenOntology, PrefixDeclaration, declaration_tokens, ontology_terms, IsTableOf}
use Rattle.fss_terms.specs.Terms.{AreTerms}
use Rattle.fss_grammar.specs.Classes.{class_of}
use Rattle.fss_grammar.specs.Making.{Document, Makes, Runs, beginning}
use Rattle.owl_tree.specs.Frames.{Frame, with_kid}
use Rattle.fss_grammar.specs.Meaning.{Events, between, within}
use Rattle.fss_grammar.specs.Page.{rule_number}
use Rattle.fss_grammar.specs.Page.Rule.{document, one}
use Rattle.fss_grammar.specs.Table.{functional}
use Rattle.fss_grammar.specs.Doing.{Does}
use Rattle.grammar.specs.declared.symbol.Symbol.TheVariants as symbol

-- what is written for declarations of prefixes and then an ontology, with names that stand for IRIs by these prefixes
pub record IsWrittenDocument (p : List Prefix) (tokens : List Token) (declarations : List PrefixDeclaration) (o : Ontology) : Type 0 where
  pub body : List Token
  pub parts : tokens ≡ flat_map declaration_tokens declarations ++ body
  pub terms : AreTerms p body (ontology_terms o)
  pub written : IsWrittenOntology o

-- the tokens derive from the rule of documents, with events that make this ontology
pub record DerivesDocument (p : List Prefix) (tokens : List Token) (declarations : List PrefixDeclaration) (o : Ontology) : Type 0 where
  pub events : Events
  pub derives : DerivesOf class_of functional (symbol.Rule (rule_number document) ∷ []) tokens events
  pub makes : Makes p events declarations o

-- the tokens derive from the rule of a sort, with events that put this tree into this construct
pub record DerivesTree (p : List Prefix) (s : Sort) (tokens : List Token) (k : Tree) (f : Frame) (frames : List Frame) (d : Document) : Type 0 where
  pub events : Events
  pub derives : DerivesOf class_of functional (symbol.Rule (rule_number (one s)) ∷ []) tokens events
  pub puts : Runs p events (within f frames d) (within (with_kid k f) frames d)

-- the tokens derive from the rule of documents, with events that make this ontology by the declarations before each name
pub record DoesDocument (tokens : List Token) (declarations : List PrefixDeclaration) (o : Ontology) : Type 0 where
  pub events : Events
  pub derives : DerivesOf class_of functional (symbol.Rule 0 ∷ []) tokens events
  pub does : Does events beginning (between (record { declarations = declarations; ontology = o }))

-- what derives for documents that begin with these tokens begins with these events
abbrev pub LeadsTo : List Token → Events → Type 0
LeadsTo front events =
    (more : List Token) (all : Events) → DerivesOf class_of functional (symbol.Rule 0 ∷ []) (front ++ more) all → (rest : Events) × (all ≡ events ++ rest)

-- no document that begins with these tokens is written
abbrev pub NoneWritten : List Token → Type 0
NoneWritten front =
    (more : List Token) (p : List Prefix) (ds : List PrefixDeclaration) (o : Ontology) → IsTableOf ds p → IsWrittenDocument p (front ++ more) ds o → ⊥
