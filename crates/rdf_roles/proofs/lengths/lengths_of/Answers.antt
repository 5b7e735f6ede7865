use Rattle.std.proofs.Common.{◌<◌, ◌∙◌, subst, sym}
use Rattle.rdf_roles.specs.Lengths.{AreKnownBelow}
use Rattle.rdf_roles.proofs.NodeLaws.{table_length}
use Rattle.rdf_roles.proofs.CellLengths.{all_passed, next_known_below, next_within, none_passed, one_passed, passed_ahead}
use Rattle.rdf_roles.proofs.lengths.lengths_of.Goals as goal

pub loop-number-init : goal.loop-number-init
loop-number-init c =
    none_passed c.args.graph.now c.in_ok-lengths.lengths.items c.args.order.now c.requires.order
    (sym c.in_ok-lengths.lengths.ok.0 ∙ c.in_ok-lengths.ensures.len ∙ c.len.ensures.len ∙ table_length c.args.graph.now c.args.table.now.entries c.requires.table)

pub length_at-requires-clause-below : goal.length_at-requires-clause-below
length_at-requires-clause-below c =
    subst (λ lengths. AreKnownBelow c.args.graph.now lengths c.in-Some.number.now) (sym c.deref.ensures.value)
    (next_known_below (passed_ahead c.loop-number.invariant c.in-Some.ensures.cases.0))

pub index_mut-requires : goal.index_mut-requires
index_mut-requires c = subst (λ n. c.in-Some.number.now < n) (sym c.loop-number.lengths.ok.0) (next_within (passed_ahead c.loop-number.invariant c.in-Some.ensures.cases.0))

pub loop-number-preserved : goal.loop-number-preserved
loop-number-preserved c = one_passed (passed_ahead c.loop-number.invariant c.in-Some.ensures.cases.0) c.in_ok-length.length c.in_ok-length.ensures

pub returns : goal.returns
returns c = all_passed c.args.graph.now c.loop-number.lengths.items _ c.in_default.ensures.cases c.loop-number.invariant
