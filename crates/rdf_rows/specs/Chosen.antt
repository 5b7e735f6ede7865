-- What the triples of one node name.
use Rattle.std.specs.Prelude.{◌≡◌, Bool, List, [], ◌∷◌, ◌++◌, Option, None, Some, length, map}
use Rattle.std.specs.List.{filter}
use Rattle.rdf_graph.specs.declared.term.Term.{Term}
use Rattle.rdf_graph.specs.declared.triple.Triple.{Triple}
use Rattle.rdf_meaning.specs.declared.word.Word.{Word}
use Rattle.rdf_meaning.specs.declared.word.Word.TheVariants as word
use Rattle.rdf_meaning.specs.Nodes.{carries, is_facet}

-- the triples that carry the word, and their objects
abbrev pub carriers : Word → List Triple → List Triple
carriers w ts = filter (carries w) ts

abbrev pub objects_with : Word → List Triple → List Term
objects_with w ts = map (λ t. t.object) (carriers w ts)

-- the triples with the predicate of a facet
unfoldable pub has_facet : Triple → Bool
has_facet t = is_facet t.predicate

abbrev pub facets : List Triple → List Triple
facets ts = filter has_facet ts

-- the only element of a list
abbrev pub the_only : {X : Type 0} → List X → Option X
the_only [] = None
the_only (x ∷ []) = Some x
the_only (x ∷ y ∷ more) = None

abbrev pub both_of : {X : Type 0} → Option X → Option X → Option (X × X)
both_of None second = None
both_of (Some x) None = None
both_of (Some x) (Some y) = Some (x, y)

-- the only first element and the only rest
abbrev pub the_cell : List Triple → Option (Term × Term)
the_cell ts = both_of (the_only (objects_with word.First ts)) (the_only (objects_with word.Rest ts))

-- one type, source, property and target
pub record IsReificationOf (ts : List Triple) : Type 0 where
  pub one_type : length (objects_with word.Axiom ts ++ objects_with word.Annotation ts) ≡ 1
  pub one_source : length (objects_with word.AnnotatedSource ts) ≡ 1
  pub one_property : length (objects_with word.AnnotatedProperty ts) ≡ 1
  pub one_target : length (objects_with word.AnnotatedTarget ts) ≡ 1
