-- Axioms of which the subject stands right behind the annotations.
use Rattle.std.proofs.Common.{◌≡◌, Bool, Some, refl}
use Rattle.owl_tree.specs.declared.tag.Tag.{Tag}
use Rattle.owl_tree.specs.declared.tag.Tag.TheVariants as tag
use Rattle.man_normal.specs.Subjects.{subject_place}

pub second_subject : (t : Tag) (chain : Bool) → (t ≡ tag.EquivalentClasses → ⊥) → (t ≡ tag.DisjointClasses → ⊥) → (t ≡ tag.EquivalentObjectProperties → ⊥) → (t ≡ tag.DisjointObjectProperties → ⊥) → (t ≡ tag.EquivalentDataProperties → ⊥) → (t ≡ tag.DisjointDataProperties → ⊥) → (t ≡ tag.SameIndividual → ⊥) → (t ≡ tag.DifferentIndividuals → ⊥) → (t ≡ tag.ClassAssertion → ⊥) → (t ≡ tag.ObjectPropertyAssertion → ⊥) → (t ≡ tag.NegativeObjectPropertyAssertion → ⊥) → (t ≡ tag.DataPropertyAssertion → ⊥) → (t ≡ tag.NegativeDataPropertyAssertion → ⊥) → (t ≡ tag.AnnotationAssertion → ⊥) → (t ≡ tag.SubObjectPropertyOf → ⊥) → Some 1 ≡ subject_place t chain
unfolding subject_place
second_subject tag.EquivalentClasses chain a b c d e f g h i j k l m n o = absurd (a refl)
second_subject tag.DisjointClasses chain a b c d e f g h i j k l m n o = absurd (b refl)
second_subject tag.EquivalentObjectProperties chain a b c d e f g h i j k l m n o = absurd (c refl)
second_subject tag.DisjointObjectProperties chain a b c d e f g h i j k l m n o = absurd (d refl)
second_subject tag.EquivalentDataProperties chain a b c d e f g h i j k l m n o = absurd (e refl)
second_subject tag.DisjointDataProperties chain a b c d e f g h i j k l m n o = absurd (f refl)
second_subject tag.SameIndividual chain a b c d e f g h i j k l m n o = absurd (g refl)
second_subject tag.DifferentIndividuals chain a b c d e f g h i j k l m n o = absurd (h refl)
second_subject tag.ClassAssertion chain a b c d e f g h i j k l m n o = absurd (i refl)
second_subject tag.ObjectPropertyAssertion chain a b c d e f g h i j k l m n o = absurd (j refl)
second_subject tag.NegativeObjectPropertyAssertion chain a b c d e f g h i j k l m n o = absurd (k refl)
second_subject tag.DataPropertyAssertion chain a b c d e f g h i j k l m n o = absurd (l refl)
second_subject tag.NegativeDataPropertyAssertion chain a b c d e f g h i j k l m n o = absurd (m refl)
second_subject tag.AnnotationAssertion chain a b c d e f g h i j k l m n o = absurd (n refl)
second_subject tag.SubObjectPropertyOf chain a b c d e f g h i j k l m n o = absurd (o refl)
second_subject _ chain a b c d e f g h i j k l m n o = refl
