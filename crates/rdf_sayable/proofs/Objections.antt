-- What is to be said against the IRI of a leaf.
use Rattle.std.proofs.Common.{◌≡◌, ℕ, Bool, true, false, List, Option, None, refl}
use Rattle.std.specs.Prelude.{if◌then◌else◌}
use Rattle.std.proofs.lemmas.Bool.{true≢false}
use Rattle.owl_tree.specs.declared.tag.Tag.{Tag}
use Rattle.owl_tree.specs.declared.tag.Tag.TheVariants as tag
use Rattle.sayable_parts.specs.Reasons.{Objection}
use Rattle.rdf_sayable.specs.Sayable.{iri_objection}

pub chosen : (b c : Bool) (x y : Option Objection) → b ≡ c → b ≡ true → x ≡ (if c then x else y)
chosen b true x y e h = refl
chosen b false x y e h = absurd (true≢false cc)

pub other : (b c : Bool) (x y : Option Objection) → b ≡ c → b ≡ false → y ≡ (if c then x else y)
other b true x y e h = absurd (true≢false cc)
other b false x y e h = refl

pub no_objection_to : (t : Tag) (iri : List ℕ) → (t ≡ tag.Class → ⊥) → (t ≡ tag.Datatype → ⊥) → (t ≡ tag.ObjectProperty → ⊥) → (t ≡ tag.DataProperty → ⊥) → (t ≡ tag.AnnotationProperty → ⊥) → (t ≡ tag.NamedIndividual → ⊥) → (t ≡ tag.Facet → ⊥) → None ≡ iri_objection t iri
unfolding iri_objection
no_objection_to tag.Class iri a b c d e f g = absurd (a refl)
no_objection_to tag.Datatype iri a b c d e f g = absurd (b refl)
no_objection_to tag.ObjectProperty iri a b c d e f g = absurd (c refl)
no_objection_to tag.DataProperty iri a b c d e f g = absurd (d refl)
no_objection_to tag.AnnotationProperty iri a b c d e f g = absurd (e refl)
no_objection_to tag.NamedIndividual iri a b c d e f g = absurd (f refl)
no_objection_to tag.Facet iri a b c d e f g = absurd (g refl)
no_objection_to _ iri a b c d e f g = refl
