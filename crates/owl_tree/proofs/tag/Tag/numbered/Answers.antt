-- A tag stands at its number, and what stands at a number has it.
use Rattle.std.proofs.Common.{◌-◌, arith}
use Rattle.std.proofs.lemmas.Option.{slice_get_within}
use Rattle.owl_tree.specs.OrderLaws.{stands}
use Rattle.owl_tree.specs.Tags.{all_tags, number_of}
use Rattle.owl_tree.proofs.Keywords.{numbered, one_at_least}
use Rattle.owl_tree.proofs.tag.Tag.numbered.Goals as goal

pub returns-in_err-checked_sub-clause-none : goal.returns-in_err-checked_sub-clause-none
returns-in_err-checked_sub-clause-none c none tag e = c.in_err-checked_sub.ensures (omega (arith, e, one_at_least tag))

pub returns-in_err-get-clause-none : goal.returns-in_err-get-clause-none
unfolding all_tags
returns-in_err-get-clause-none c none tag e =
    omega (arith, e, slice_get_within all_tags (number_of tag - 1) tag (stands tag), c.in_err-get.ensures.lookup.3, c.in_ok-checked_sub.ensures)

pub returns-clause-some : goal.returns-clause-some
unfolding all_tags
returns-clause-some c =
    let place = numbered c.in_ok-get.field-0.now c.in_ok-checked_sub.field-0 (c.in_ok-get.ensures.lookup.3.1 c.in_ok-get.field-0.now) c.in_ok-get.ensures.lookup.3.0 in
    omega (arith, place, c.in_ok-checked_sub.ensures)
