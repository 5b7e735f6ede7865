-- Annotation properties that are guessed of a graph, and what it says with their declarations.
use Rattle.std.specs.Prelude.{◌≡◌, ◌<◌, ◌≤◌, ◌⊎◌, ℕ, Bool, not, ◌&&◌, IsTrue, List, filter, map}
use Rattle.owl_arena.specs.Shared.{heaviest}
use Rattle.owl_characters.specs.Order.{text_cmp}
use Rattle.owl_declarations.specs.Declarations.{with_declarations}
use Rattle.owl_kind.specs.declared.kind.Kind.TheVariants.{AnnotationProperty}
use Rattle.owl_kind.specs.declared.kind.Kind.{Kind}
use Rattle.owl_kind.specs.Kinds.{Entity, IsDeclared}
use Rattle.owl_list.specs.Ascending.{ascending}
use Rattle.owl_tree.specs.Ontologies.{IsSameOntology, Ontology, ontology_weight}
use Rattle.rdf_faults.specs.Faults.{is_property}
use Rattle.rdf_graph.specs.declared.triple.Triple.{Triple}
use Rattle.rdf_terms.specs.Vocabulary.{is_reserved}
use Rattle.rdf_reverse.specs.declared.fault.ReverseFault.{ReverseFault}
use Rattle.rdf_reverse.specs.declared.fault.ReverseFault.TheVariants.{TooHeavy, Memory}
use Rattle.rdf_reverse.specs.Reverse.{IsSaid, IsUnsaid}

-- the IRI may be guessed to be an annotation property: it is not reserved, and no property of any kind
abbrev pub may_be_guessed : List Entity → List ℕ → Bool
may_be_guessed k iri = not (is_reserved iri) && not (is_property k iri)

-- The predicates of the graph that may be guessed under these kinds, each once, in order of bytes.
abbrev pub guessed : List Triple → List Entity → List (List ℕ)
guessed g k = ascending text_cmp (filter (may_be_guessed k) (map (λ t. t.predicate) g))

-- Besides what was declared some IRIs are declared as annotation properties, which may be guessed under what was.
pub record AddsGuesses (kinds more : List Entity) : Type 0 where
  pub kept : (kind : Kind) (iri : List ℕ) → IsDeclared kinds kind iri → IsDeclared more kind iri
  pub added : (kind : Kind) (iri : List ℕ) → IsDeclared more kind iri →
      IsDeclared kinds kind iri ⊎ ((kind ≡ AnnotationProperty) × IsTrue (may_be_guessed kinds iri))

-- the ontology, which declares these IRIs as annotation properties too
abbrev pub with_guesses : List (List ℕ) → Ontology → Ontology
with_guesses names o = with_declarations AnnotationProperty names o

-- The graph says the ontology but for the declarations of these annotation properties, and with them it passes no limit.
pub record IsSaidWith (g : List Triple) (k : List Entity) (names : List (List ℕ)) (o : Ontology) : Type 0 where
  pub bare : Ontology
  pub said : IsSaid g k bare
  pub same : IsSameOntology (with_guesses names bare) o
  pub light : ontology_weight (with_guesses names bare) ≤ heaviest

-- Why the graph says none with them: it says none without them, or what it says is too heavy with them.
pub data IsUnsaidWith (g : List Triple) (k : List Entity) (names : List (List ℕ)) (f : ReverseFault) : Type 0 where
  of_graph : IsUnsaid g k f → IsUnsaidWith g k names f
  of_guesses : (bare : Ontology) → IsSaid g k bare → heaviest < ontology_weight (with_guesses names bare) → f ≡ TooHeavy → IsUnsaidWith g k names f

-- so; or memory ran out
abbrev pub IsFaultWith : List Triple → List Entity → List (List ℕ) → ReverseFault → Type 0
IsFaultWith g k names f = (f ≡ Memory) ⊎ IsUnsaidWith g k names f
