-- What the definitions say of some ontologies, worked out by hand.
use lib.Utf8.{encode}
use Rattle.std.specs.Prelude.{◌≡◌, ℕ, List, [], ◌∷◌, None, Some, codes, true, false}
use Rattle.std.proofs.Common.{refl}
use Rattle.owl_tree.specs.declared.atom.Atom.TheVariants as atom
use Rattle.owl_tree.specs.declared.tag.Tag.{Tag}
use Rattle.owl_tree.specs.declared.tag.Tag.TheVariants as tag
use Rattle.owl_tree.specs.Ontologies.{Head, Ontology}
use Rattle.owl_tree.specs.Rows.{row_of}
use Rattle.owl_tree.specs.Tags.{number_of}
use Rattle.owl_tree.specs.Trees.{Tree, leaf}
use Rattle.rdf_normal.specs.NormalForms.{absorbed_count, normal_form, over, spread, tidied}
use Rattle.rdf_normal.specs.OneTriple.{is_one_triple}

abbrev named : Tag → List ℕ → Tree
named t iri = leaf t (atom.Iri iri)

abbrev A : Tree
A = named tag.Class (codes "e:A")

abbrev B : Tree
B = named tag.Class (codes "e:B")

abbrev C : Tree
C = named tag.Class (codes "e:C")

abbrev D : Tree
D = named tag.Class (codes "e:D")

abbrev p : Tree
p = named tag.ObjectProperty (codes "e:p")

abbrev i : Tree
i = named tag.NamedIndividual (codes "e:i")

abbrev j : Tree
j = named tag.NamedIndividual (codes "e:j")

abbrev bare_notes : Tree
bare_notes = over tag.Notes []

abbrev label : Tree
label = named tag.AnnotationProperty (codes "e:l")

abbrev value : Tree
value = named tag.PlainIri (codes "e:v")

-- Annotation(.. <e:l> <e:v>)
abbrev noted : Tree → Tree
noted notes = over tag.Annotation (notes ∷ label ∷ value ∷ [])

-- the one annotation <e:l> <e:v>
abbrev notes : Tree
notes = over tag.Notes (noted bare_notes ∷ [])

abbrev nameless : Head
nameless = record { name = None; imports = [] }

abbrev of_axioms : List Tree → Ontology
of_axioms axioms = record { head = nameless; annotations = []; axioms = axioms }

-- which axioms one triple says
two_are_one_triple : is_one_triple (over tag.DisjointClasses (bare_notes ∷ A ∷ B ∷ [])) ≡ true
unfolding number_of
two_are_one_triple = refl

three_are_none : is_one_triple (over tag.DisjointClasses (bare_notes ∷ A ∷ B ∷ C ∷ [])) ≡ false
unfolding number_of
three_are_none = refl

equivalents_are_one_triple : is_one_triple (over tag.EquivalentClasses (bare_notes ∷ A ∷ B ∷ C ∷ [])) ≡ true
unfolding number_of
equivalents_are_one_triple = refl

negative_is_none : is_one_triple (over tag.NegativeObjectPropertyAssertion (bare_notes ∷ p ∷ i ∷ j ∷ [])) ≡ false
unfolding number_of
negative_is_none = refl

-- three equivalent classes become two pairs, and both have the annotations
three_equivalents : normal_form (of_axioms (over tag.EquivalentClasses (notes ∷ C ∷ A ∷ B ∷ []) ∷ [])) ≡ of_axioms (over tag.EquivalentClasses (notes ∷ A ∷ B ∷ []) ∷ over tag.EquivalentClasses (notes ∷ B ∷ C ∷ []) ∷ [])
unfolding number_of row_of encode
three_equivalents = refl

-- a pair of two such axioms is one axiom, and nothing is absorbed
abbrev overlapping : Ontology
overlapping = of_axioms (over tag.EquivalentClasses (notes ∷ A ∷ B ∷ C ∷ []) ∷ over tag.EquivalentClasses (notes ∷ B ∷ C ∷ D ∷ []) ∷ [])

overlaps : normal_form overlapping ≡ of_axioms (over tag.EquivalentClasses (notes ∷ A ∷ B ∷ []) ∷ over tag.EquivalentClasses (notes ∷ B ∷ C ∷ []) ∷ over tag.EquivalentClasses (notes ∷ C ∷ D ∷ []) ∷ [])
unfolding number_of row_of encode
overlaps = refl

overlaps_count : absorbed_count overlapping ≡ 0
unfolding number_of row_of encode
overlaps_count = refl

-- the bare one of two equal axioms is dropped
abbrev twice : Ontology
twice = of_axioms (over tag.SubClassOf (bare_notes ∷ A ∷ B ∷ []) ∷ over tag.SubClassOf (notes ∷ A ∷ B ∷ []) ∷ [])

twice_form : normal_form twice ≡ of_axioms (over tag.SubClassOf (notes ∷ A ∷ B ∷ []) ∷ [])
unfolding number_of row_of encode
twice_form = refl

twice_count : absorbed_count twice ≡ 1
unfolding number_of row_of encode
twice_count = refl

-- but not of axioms with a node of their own
abbrev three_apart : Tree → Tree
three_apart notes = over tag.DisjointClasses (notes ∷ A ∷ B ∷ C ∷ [])

abbrev apart_twice : Ontology
apart_twice = of_axioms (three_apart bare_notes ∷ three_apart notes ∷ [])

apart_form : normal_form apart_twice ≡ apart_twice
unfolding number_of row_of encode
apart_form = refl

-- an assertion of an inverse is turned
inverse_turned : spread (over tag.ObjectPropertyAssertion (notes ∷ over tag.ObjectInverseOf (p ∷ []) ∷ i ∷ j ∷ [])) ≡ over tag.ObjectPropertyAssertion (notes ∷ p ∷ j ∷ i ∷ []) ∷ []
unfolding number_of
inverse_turned = refl

-- what is asserted of the ontology becomes its annotation, and isn't absorbed
abbrev called : Head
called = record { name = Some (record { iri = codes "e:o"; version = None }); imports = [] }

abbrev own : Ontology
own = record {
  head = called;
  annotations = noted bare_notes ∷ [];
  axioms =
      over tag.AnnotationAssertion (notes ∷ label ∷ named tag.PlainIri (codes "e:o") ∷ value ∷ [])
      ∷ over tag.AnnotationAssertion (notes ∷ label ∷ named tag.PlainIri (codes "e:p") ∷ value ∷ []) ∷ [];
}

own_form : normal_form own ≡ record { head = called; annotations = noted notes ∷ []; axioms = over tag.AnnotationAssertion (notes ∷ label ∷ named tag.PlainIri (codes "e:p") ∷ value ∷ []) ∷ [] }
unfolding number_of row_of encode
own_form = refl

own_count : absorbed_count own ≡ 0
unfolding number_of row_of encode
own_count = refl

-- a bare annotation is dropped beside an annotated one, at any level; what becomes equal so is absorbed
abbrev deep : Tree → Tree
deep inner = over tag.SubClassOf (over tag.Notes (noted inner ∷ []) ∷ A ∷ B ∷ [])

abbrev doubled : Tree
doubled = over tag.Notes (noted bare_notes ∷ noted notes ∷ [])

deep_tidied : tidied (deep doubled) ≡ deep (over tag.Notes (noted notes ∷ []))
unfolding number_of row_of encode
deep_tidied = refl

abbrev nearly_equal : Ontology
nearly_equal = of_axioms (deep doubled ∷ deep (over tag.Notes (noted notes ∷ [])) ∷ [])

nearly_equal_count : absorbed_count nearly_equal ≡ 1
unfolding number_of row_of encode
nearly_equal_count = refl
