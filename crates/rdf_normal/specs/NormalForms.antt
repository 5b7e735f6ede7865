-- The form of an ontology that a graph can say (Mapping to RDF Graphs, section 2): with axioms that it has triples for, and
-- with no bare axiom or annotation beside an annotated one, since an annotated one says the bare one's triple too.
use Rattle.std.specs.Prelude.{ℕ, ◌-◌, Bool, true, false, ◌&&◌, ◌||◌, not, nat_lt, cond, List, [], ◌∷◌, ◌++◌, length, map, filter, flat_map, Option, None, Some}
use Rattle.std.specs.List.{list_any}
use Rattle.std.specs.Option.{option_map}
use Rattle.std.specs.Ordering.{eq_by_cmp}
use Rattle.owl_characters.specs.Order.{text_eq}
use Rattle.owl_doc.specs.Heads.{iri_in}
use Rattle.owl_list.specs.Ascending.{ascending}
use Rattle.owl_tree.specs.declared.atom.Atom.TheVariants as atom
use Rattle.owl_tree.specs.declared.tag.Tag.{Tag}
use Rattle.owl_tree.specs.declared.tag.Tag.TheVariants as tag
use Rattle.owl_tree.specs.Canonical.{arranged}
use Rattle.owl_tree.specs.Ontologies.{Ontology, canonical_list}
use Rattle.owl_tree.specs.Order.{tree_cmp}
use Rattle.owl_tree.specs.Rows.{is_tag, row_of, set_start}
use Rattle.owl_tree.specs.Tags.{is_axiom}
use Rattle.owl_tree.specs.Trees.{Tree, Kids, leaf, node, no_kids, kid, kids_in, kids_of, tag_of}
use Rattle.rdf_normal.specs.OneTriple.{is_one_triple}

abbrev pub over : Tag → List Tree → Tree
over t kids = node t (kids_of kids)

-- The first step: of three members or more, the pairs of neighbours.

-- they are all equivalent, or the same
abbrev pub are_equals : Tag → Bool
are_equals t = is_tag tag.EquivalentClasses t || is_tag tag.EquivalentObjectProperties t || is_tag tag.EquivalentDataProperties t || is_tag tag.SameIndividual t

-- the pairs of neighbours among the members, each with the same annotations
abbrev pub pairs : Tag → Tree → List Tree → List Tree
pairs t notes [] = []
pairs t notes (a ∷ []) = []
pairs t notes (a ∷ b ∷ members) = over t (notes ∷ a ∷ b ∷ []) ∷ pairs t notes (b ∷ members)

abbrev pub pairs_in : Tag → List Tree → List Tree
pairs_in t [] = []
pairs_in t (notes ∷ members) = pairs t notes members

-- the annotations are the first kid
abbrev pub is_paired : Tree → Bool
is_paired t = are_equals (tag_of t) && nat_lt 3 (length (kids_in t))

-- The second step: an assertion of the inverse of a property is one of the property, the other way round.

-- the property that it is the inverse of
abbrev pub only : List Tree → Option Tree
only (property ∷ []) = Some property
only _ = None

abbrev pub inverted : Tree → Option Tree
inverted t = cond (is_tag tag.ObjectInverseOf (tag_of t)) (only (kids_in t)) None

-- the kids of the assertion the other way round
abbrev pub turned_kids : List Tree → Option (List Tree)
turned_kids (notes ∷ property ∷ from ∷ to ∷ []) = option_map (λ named. notes ∷ named ∷ to ∷ from ∷ []) (inverted property)
turned_kids _ = None

abbrev pub turned_from : Tree → Option (List Tree)
turned_from t = cond (is_tag tag.ObjectPropertyAssertion (tag_of t)) (turned_kids (kids_in t)) None

abbrev pub assertion_of : Tree → Option (List Tree) → Tree
assertion_of t (Some kids) = over tag.ObjectPropertyAssertion kids
assertion_of t None = t

abbrev pub turned : Tree → Tree
turned t = assertion_of t (turned_from t)

-- what the axiom, in canonical form, becomes in these two steps
abbrev pub spread : Tree → List Tree
spread t = cond (is_paired t) (pairs_in (tag_of t) (kids_in t)) (turned t ∷ [])

-- The third step: what is asserted of the ontology's own IRI becomes an annotation of the ontology.

-- the IRI that a leaf holds
abbrev pub iri_at : Tree → Option (List ℕ)
iri_at (leaf t (atom.Iri iri)) = Some iri
iri_at _ = None

-- the IRI that is the subject of an AnnotationAssertion with these kids
abbrev pub subject_in : List Tree → Option (List ℕ)
subject_in (notes ∷ property ∷ subject ∷ value ∷ []) = iri_at subject
subject_in _ = None

abbrev pub is_same_iri : Option (List ℕ) → Option (List ℕ) → Bool
is_same_iri (Some a) (Some b) = text_eq a b
is_same_iri _ _ = false

-- it asserts an annotation of what is called so
abbrev pub is_about : Option (List ℕ) → Tree → Bool
is_about name t = is_tag tag.AnnotationAssertion (tag_of t) && is_same_iri name (subject_in (kids_in t))

-- the annotation that it asserts
abbrev pub asserted : List Tree → Tree → Tree
asserted (notes ∷ property ∷ subject ∷ value ∷ []) t = over tag.Annotation (notes ∷ property ∷ value ∷ [])
asserted _ t = t

abbrev pub annotation_of : Tree → Tree
annotation_of t = asserted (kids_in t) t

-- The fourth step: what is bare is dropped beside what is annotated and has the same rest.

abbrev pub has_kids : Tree → Bool
has_kids (node t (kid k ks)) = true
has_kids _ = false

-- an axiom or annotation, whose first kid is its annotations
abbrev pub bears_notes : Tag → Bool
bears_notes t = is_tag tag.Annotation t || is_axiom t

abbrev pub is_annotated : Tree → Bool
is_annotated (node t (kid notes ks)) = bears_notes t && has_kids notes
is_annotated _ = false

-- it without its annotations
abbrev pub bare : Tree → Tree
bare (leaf t a) = leaf t a
bare (node t no_kids) = node t no_kids
bare (node t (kid notes ks)) = node t (kid (node tag.Notes no_kids) ks)

-- one of the others says it, and has annotations
abbrev pub says_more : Tree → Tree → Bool
says_more t other = is_annotated other && eq_by_cmp tree_cmp (bare other) t

abbrev pub is_needless : List Tree → Tree → Bool
is_needless others t = is_one_triple t && list_any (says_more t) others

abbrev pub needed : List Tree → List Tree
needed ts = filter (λ t. not (is_needless ts t)) ts

-- among the annotations of one axiom or annotation
abbrev pub needed_in : Tag → List Tree → List Tree
needed_in t ts = cond (is_tag tag.Notes t) (needed ts) ts

-- the canonical form without needless annotations at any level
abbrev mutual
  pub tidied : Tree → Tree
  tidied (leaf t a) = leaf t a
  tidied (node t ks) = over t (needed_in t (arranged (set_start (row_of t)) (tidieds ks)))

  pub tidieds : Kids → List Tree
  tidieds no_kids = []
  tidieds (kid t ks) = tidied t ∷ tidieds ks

-- those that are needed of a set, each tidied
abbrev pub settled : List Tree → List Tree
settled ts = needed (ascending tree_cmp (map tidied ts))

-- The four steps.

-- the axioms behind the second step
abbrev pub spread_axioms : Ontology → List Tree
spread_axioms o = canonical_list (flat_map spread (canonical_list o.axioms))

-- and those of them that are about the ontology, and the others
abbrev pub own_assertions : Ontology → List Tree
own_assertions o = filter (is_about (iri_in o.head.name)) (spread_axioms o)

abbrev pub unsettled_axioms : Ontology → List Tree
unsettled_axioms o = filter (λ t. not (is_about (iri_in o.head.name) t)) (spread_axioms o)

abbrev pub unsettled_annotations : Ontology → List Tree
unsettled_annotations o = canonical_list (o.annotations ++ map annotation_of (own_assertions o))

abbrev pub normal_form : Ontology → Ontology
normal_form o = record { head = o.head; annotations = settled (unsettled_annotations o); axioms = settled (unsettled_axioms o) }

-- so many axioms fewer are there behind the fourth step
abbrev pub absorbed_count : Ontology → ℕ
absorbed_count o = length (unsettled_axioms o) - length (normal_form o).axioms
