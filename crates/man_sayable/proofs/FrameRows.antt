-- Axioms of which no frame asks anything.
use Rattle.std.proofs.Common.{◌≡◌, List, None, refl}
use Rattle.owl_tree.specs.declared.tag.Tag.{Tag}
use Rattle.owl_tree.specs.declared.tag.Tag.TheVariants as tag
use Rattle.owl_tree.specs.Trees.{Tree}
use Rattle.man_resolve.specs.Expressions.{Knows}
use Rattle.man_sayable.specs.Sayable.{frame_objection}

pub any_frame : (known : Knows) (t : Tag) (kids : List Tree) → (t ≡ tag.Declaration → ⊥) → (t ≡ tag.AnnotationAssertion → ⊥) → None ≡ frame_objection known t kids
unfolding frame_objection
any_frame known tag.Declaration kids a b = absurd (a refl)
any_frame known tag.AnnotationAssertion kids a b = absurd (b refl)
any_frame known _ kids a b = refl
