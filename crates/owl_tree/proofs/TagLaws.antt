-- Tests of tags.
use Rattle.std.proofs.Common.{◌≡◌, Bool, true, false, refl, sym, ◌∙◌}
use Rattle.std.specs.Prelude.{◌==◌, not}
use Rattle.std.specs.Ordering.{on}
use Rattle.std.proofs.lemmas.Bool.{not-true}
use Rattle.owl_tree.specs.declared.tag.Tag.{Tag}
use Rattle.owl_tree.specs.Tags.{number_of}
use Rattle.owl_tree.specs.OrderLaws.{same_tag}

-- where `t == u` fails
pub tags_differ : (t u : Tag) (is : Bool) → is ≡ on number_of ◌==◌ t u → is ≡ false → t ≡ u → ⊥
tags_differ t u is e h same = let k = e ∙ (same_tag t u).1 same in absurd (cc)

-- where `t != u` holds
pub tags_unequal : (t u : Tag) (ne : Bool) → ne ≡ not (on number_of ◌==◌ t u) → ne ≡ true → t ≡ u → ⊥
tags_unequal t u ne e h = tags_differ t u (on number_of ◌==◌ t u) refl (not-true (on number_of ◌==◌ t u) (sym e ∙ h))
