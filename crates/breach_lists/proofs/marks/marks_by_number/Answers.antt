use Rattle.std.proofs.Common.{rules, ◌≡◌, ◌<◌, ℕ, false, sym, subst, ◌∙◌}
use Rattle.std.proofs.Math.ListN.{replicate}
use Rattle.owl_list.proofs.AscendingLaws.{all_in}
use Rattle.breach_lists.proofs.Marking.{all_marked, none_marked, none_yet, one_more_marked}
use Rattle.breach_lists.proofs.marks.marks_by_number.Goals as goal

pub places-init : goal.places-init
places-init c =
    let made : c.in_ok-by_number.by_number.items ≡ replicate c.args.count false = search rules in
    record {
      size = search rules;
      told = none_marked c.args.axioms.now c.args.marks.now c.in_ok-by_number.by_number.items (none_yet c.args.count c.in_ok-by_number.by_number.items made);
    }

pub mark_if-requires : goal.mark_if-requires
mark_if-requires c =
    let inside = all_in (λ (id : ℕ). id < c.args.count) c.args.axioms.now c.index-axioms-place.result c.requires (c.places.place, c.places-test.true, sym c.index-axioms-place.is) in
    subst (λ (n : ℕ). c.index-axioms-place.result < n) (sym c.places.invariant.size) inside

pub places-preserved : goal.places-preserved
places-preserved c = record {
  size = c.mark_if.ensures.size ∙ c.places.invariant.size;
  told = one_more_marked c.args.axioms.now c.args.marks.now c.places.by_number.items c.mark_if.new.by_number.items c.places.place c.index-axioms-place.result c.has_mark.result c.places-test.true c.index-axioms-place.is c.has_mark.ensures c.mark_if.ensures.told c.places.invariant.told;
}

pub returns : goal.returns
returns c = all_marked c.args.axioms.now c.args.marks.now c.places.by_number.items c.places.place c.places-test.false c.places.invariant.told
