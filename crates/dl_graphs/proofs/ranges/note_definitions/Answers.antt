use Rattle.std.proofs.Common.{◌≤◌, List, ℕ, arith, length, subst}
use Rattle.std.proofs.lemmas.List.{take_all}
use Rattle.owl_arena.specs.Held.{trees_at}
use Rattle.dl_graphs.specs.Ranges.{AreRanges}
use Rattle.dl_graphs.proofs.RangeLaws.{ranges_next}
use Rattle.dl_graphs.proofs.ranges.note_definitions.Goals as goal

pub axioms-preserved : goal.axioms-preserved
axioms-preserved c =
    ranges_next c.args.arena.now.trees c.requires.shared.one_number c.args.axioms.now c.axioms.id-index c.id-item.result c.axioms.table.entries c.note_definition.new.table.entries c.axioms-test.true c.id-item.is c.axioms.invariant c.in_ok-note_definition.ensures

pub returns : goal.returns
returns c =
    let ts = c.args.arena.now.trees in
    let end : length c.args.axioms.now ≤ c.axioms.id-index = (let past = c.axioms-test.false in omega arith) in
    subst (λ (ids : List ℕ). AreRanges ts (trees_at ts ids) c.axioms.table.entries) (take_all c.axioms.id-index c.args.axioms.now end) c.axioms.invariant
