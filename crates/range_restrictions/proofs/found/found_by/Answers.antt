use Rattle.std.proofs.Common.{ℕ, List, subst}
use Rattle.std.proofs.lemmas.List.{take_all}
use Rattle.owl_arena.specs.Held.{trees_at}
use Rattle.range_restrictions.specs.Found.{AreFound}
use Rattle.range_restrictions.proofs.Gathering.{found_more, found_none}
use Rattle.range_restrictions.proofs.found.found_by.Goals as goal

pub axioms-init : goal.axioms-init
axioms-init c = found_none c.args.arena.now.trees c.none-found.result c.none-found.ensures.steps c.none-found.ensures.ranges c.none-found.ensures.chains

pub axioms-preserved : goal.axioms-preserved
axioms-preserved c =
    found_more c.args.arena.now.trees c.args.axioms.now c.axioms.id-index c.id-item.result c.statement_at.result c.axioms.found c.note.new.self c.axioms-test.true c.id-item.is
    c.axioms.invariant c.statement_at.ensures c.in_ok-note.ensures

pub returns : goal.returns
returns c =
    subst (λ (ids : List ℕ). AreFound c.args.arena.now.trees (trees_at c.args.arena.now.trees ids) c.axioms.found) (take_all c.axioms.id-index c.args.axioms.now c.axioms-test.false) c.axioms.invariant
