use Rattle.std.proofs.Common.{ℕ, List, subst}
use Rattle.std.specs.List.{AllByRecursion}
use Rattle.std.proofs.lemmas.List.{take_all}
use Rattle.owl_arena.specs.Held.{trees_at}
use Rattle.rdf_normal.specs.Staying.{IsKept}
use Rattle.rdf_normal.proofs.Looping.{all_further}
use Rattle.rdf_normal.proofs.staying.are_kept.Goals as goal

pub ids-preserved : goal.ids-preserved
ids-preserved c =
    all_further (IsKept c.args.name.now) c.args.arena.now.trees c.args.ids.now c.ids.id-index c.id-item.result c.ids-test.true c.id-item.is c.ids.invariant (c.is_kept.ensures c.if-not-is_kept.false)

pub returns : goal.returns
returns c =
    λ _. subst (λ (ids : List ℕ). AllByRecursion (IsKept c.args.name.now) (trees_at c.args.arena.now.trees ids)) (take_all c.ids.id-index c.args.ids.now c.ids-test.false) c.ids.invariant
