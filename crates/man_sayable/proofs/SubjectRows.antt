-- Axioms of which Manchester Syntax asks nothing of the subject.
use Rattle.std.proofs.Common.{◌≡◌, refl}
use Rattle.owl_tree.specs.declared.tag.Tag.{Tag}
use Rattle.owl_tree.specs.declared.tag.Tag.TheVariants as tag
use Rattle.man_sayable.specs.declared.subjects.Subject.TheVariants.{Any}
use Rattle.man_sayable.specs.Subjects.{subject_of}

pub any_subject : (t : Tag) → (t ≡ tag.SubClassOf → ⊥) → (t ≡ tag.HasKey → ⊥) → (t ≡ tag.SubObjectPropertyOf → ⊥) → (t ≡ tag.InverseObjectProperties → ⊥) → (t ≡ tag.ObjectPropertyDomain → ⊥) → (t ≡ tag.ObjectPropertyRange → ⊥) → (t ≡ tag.FunctionalObjectProperty → ⊥) → (t ≡ tag.InverseFunctionalObjectProperty → ⊥) → (t ≡ tag.ReflexiveObjectProperty → ⊥) → (t ≡ tag.IrreflexiveObjectProperty → ⊥) → (t ≡ tag.SymmetricObjectProperty → ⊥) → (t ≡ tag.AsymmetricObjectProperty → ⊥) → (t ≡ tag.TransitiveObjectProperty → ⊥) → (t ≡ tag.ObjectPropertyAssertion → ⊥) → (t ≡ tag.NegativeObjectPropertyAssertion → ⊥) → Any ≡ subject_of t
unfolding subject_of
any_subject tag.SubClassOf a b c d e f g h i j k l m n o = absurd (a refl)
any_subject tag.HasKey a b c d e f g h i j k l m n o = absurd (b refl)
any_subject tag.SubObjectPropertyOf a b c d e f g h i j k l m n o = absurd (c refl)
any_subject tag.InverseObjectProperties a b c d e f g h i j k l m n o = absurd (d refl)
any_subject tag.ObjectPropertyDomain a b c d e f g h i j k l m n o = absurd (e refl)
any_subject tag.ObjectPropertyRange a b c d e f g h i j k l m n o = absurd (f refl)
any_subject tag.FunctionalObjectProperty a b c d e f g h i j k l m n o = absurd (g refl)
any_subject tag.InverseFunctionalObjectProperty a b c d e f g h i j k l m n o = absurd (h refl)
any_subject tag.ReflexiveObjectProperty a b c d e f g h i j k l m n o = absurd (i refl)
any_subject tag.IrreflexiveObjectProperty a b c d e f g h i j k l m n o = absurd (j refl)
any_subject tag.SymmetricObjectProperty a b c d e f g h i j k l m n o = absurd (k refl)
any_subject tag.AsymmetricObjectProperty a b c d e f g h i j k l m n o = absurd (l refl)
any_subject tag.TransitiveObjectProperty a b c d e f g h i j k l m n o = absurd (m refl)
any_subject tag.ObjectPropertyAssertion a b c d e f g h i j k l m n o = absurd (n refl)
any_subject tag.NegativeObjectPropertyAssertion a b c d e f g h i j k l m n o = absurd (o refl)
any_subject _ a b c d e f g h i j k l m n o = refl
