-- Graphs whose blank nodes got other labels (RDF 1.1 Concepts and Abstract Syntax, section 3.6).
use Rattle.std.specs.Prelude.{◌≡◌, ◌⊎◌, ℕ, List, Contains}
use Rattle.rdf_graph.specs.declared.term.Term.{Term}
use Rattle.rdf_graph.specs.declared.term.Term.TheVariants.{Iri, Blank, Literal}
use Rattle.rdf_graph.specs.declared.triple.Triple.{Triple}

-- the blank node is the subject or the object of a triple
pub record IsLabelIn (g : List Triple) (label : List ℕ) : Type 0 where
  pub triple : Triple
  pub inside : Contains g triple
  pub stands : (triple.subject ≡ Blank label) ⊎ (triple.object ≡ Blank label)

abbrev pub renamed_term : (List ℕ → List ℕ) → Term → Term
renamed_term rename (Iri iri) = Iri iri
renamed_term rename (Blank label) = Blank (rename label)
renamed_term rename (Literal literal) = Literal literal

abbrev pub renamed : (List ℕ → List ℕ) → Triple → Triple
renamed rename t =
    record { subject = renamed_term rename t.subject; predicate = t.predicate; object = renamed_term rename t.object }

-- Blank nodes of the graph that differ get labels that do, and each of these labels stays.
pub record IsRenaming (rename : List ℕ → List ℕ) (g : List Triple) (labels : List (List ℕ)) : Type 0 where
  pub one_to_one : (a b : List ℕ) → IsLabelIn g a → IsLabelIn g b → rename a ≡ rename b → a ≡ b
  pub keeps : (label : List ℕ) → Contains labels label → rename label ≡ label
