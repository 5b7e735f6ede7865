-- What is read back of the texts that a trial makes.
use Rattle.std.specs.Prelude.{◌≡◌, ℕ, None, List, length}
use Rattle.owl_documents.specs.Documents.{IsDefect, IsProperRefusal, Parsed, Said, a_graph, an_ontology, in_functional, syntax_of}
use Rattle.owl_documents.specs.Reading.{AreReadUnder}
use Rattle.owl_documents.specs.declared.document.Syntax.{Syntax}
use Rattle.owl_documents.specs.declared.trouble.Refusal.{Refusal}
use Rattle.owl_kind.specs.Kinds.{Entity}
use Rattle.owl_messages.specs.Outcome.{Outcome}
use Rattle.owl_tree.specs.Ontologies.{Ontology}
use Rattle.owl_answer.specs.KindsAt.{AreOwnKinds}
use Rattle.owl_answer.specs.TurtleOutcome.{canonical_said}
use Rattle.owl_answer.specs.Trials.{IsTried}
use Rattle.owl_answer.specs.UnderKinds.{SaysUnder}

-- the bytes have no defect by the grammar of this syntax
abbrev pub HasNoDefect : Syntax → List ℕ → Type 0
HasNoDefect syntax bytes =
    (name : List ℕ) (refusal : Refusal) → syntax_of name ≡ syntax → IsProperRefusal refusal → IsDefect None name bytes refusal → ⊥

-- how many triples the graph has that is read; none where it is no graph
abbrev pub triple_count : Parsed → ℕ
triple_count (a_graph read) = length read.triples
triple_count parsed = 0

-- what was read says this ontology under these kinds, and has so many triples
pub record IsSaidBack (kinds : List Entity) (o : Ontology) (triples : ℕ) (parsed : Parsed) : Type 0 where
  pub said : Said
  pub says : SaysUnder kinds parsed said
  pub ontology : said.ontology ≡ o
  pub counts : triple_count parsed ≡ triples

-- the bytes are a document of this syntax, and whatever they are read as says this ontology
pub record ReadsBack (syntax : Syntax) (kinds : List Entity) (bytes : List ℕ) (o : Ontology) (triples : ℕ) : Type 0 where
  pub no_defect : HasNoDefect syntax bytes
  pub back : (parsed : Parsed) → AreReadUnder syntax bytes parsed → IsSaidBack kinds o triples parsed

-- so they are read as something, by some ontology
pub record ReadsSome (syntax : Syntax) (kinds : List Entity) (bytes : List ℕ) : Type 0 where
  pub ontology : Ontology
  pub triples : ℕ
  pub reads : ReadsBack syntax kinds bytes ontology triples

-- this becomes of a document, which is an ontology
pub record IsTriedAs (parsed : Parsed) (outcome : Outcome) : Type 0 where
  pub said : Said
  pub is : parsed ≡ an_ontology in_functional said
  pub kinds : List Entity
  pub own : AreOwnKinds parsed kinds
  pub tried : IsTried kinds (canonical_said said) outcome
