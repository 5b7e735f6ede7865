use Rattle.std.proofs.Common.{refl}
use Rattle.range_restrictions.specs.Restrictions.{LacksRangeBy}
use Rattle.breach_lists.proofs.ClosureLaws.{below_count, held_so, marks_so}
use Rattle.owl_profiles.proofs.search.chain_marks.Goals as goal

pub chains_without_ranges-requires : goal.chains_without_ranges-requires
chains_without_ranges-requires c =
    record { axioms = held_so c.requires.closure c.args.arena.now.trees c.args.pooled.now c.requires.pooled c.in_ok-axioms.axioms.items c.in_ok-axioms.ensures c.deref.result.now c.deref.ensures.value }

pub marks_by_number-requires : goal.marks_by_number-requires
marks_by_number-requires c =
    below_count c.requires.closure c.args.arena.now.trees c.args.pooled.now c.requires.pooled c.in_ok-axioms.axioms.items c.in_ok-axioms.ensures c.deref-2.result.now c.distinct.result c.deref-2.ensures.value c.distinct.ensures.trees

pub returns : goal.returns
returns c = record {
  told = λ closure pooled.
      marks_so closure c.args.arena.now.trees c.args.pooled.now pooled c.in_ok-axioms.axioms.items c.in_ok-axioms.ensures LacksRangeBy
      c.deref.result.now c.deref-2.result.now c.in_ok-marks.marks.items c.deref-3.result.now c.in_ok-marks_by_number.field-0.items c.in_ok-marks_by_number.field-0.items
      c.deref.ensures.value c.deref-2.ensures.value c.deref-3.ensures.value refl c.in_ok-marks.ensures c.in_ok-marks_by_number.ensures;
}
