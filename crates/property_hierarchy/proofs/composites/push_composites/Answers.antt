use Rattle.std.proofs.lemmas.Result.{on_ok_weaker}
use Rattle.owl_arena.specs.Held.{tree_at}
use Rattle.property_hierarchy.proofs.Compositing.{composites_at}
use Rattle.property_hierarchy.proofs.composites.push_composites.Goals as goal

pub returns : goal.returns
returns c =
    on_ok_weaker c.push_transitive.result
    (λ e. composites_at c.args.arena.now.trees (tree_at c.args.arena.now.trees c.args.id) _ _ _ c.in_ok-push_implied.ensures e) c.push_transitive.ensures
