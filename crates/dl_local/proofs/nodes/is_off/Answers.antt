use Rattle.std.proofs.Common.{sym, ap, ◌∙◌}
use Rattle.owl_arena.specs.Held.{tree_at, trees_at}
use Rattle.dl_rules.specs.Local.{is_off}
use Rattle.dl_local.proofs.ByNumbers.{off_each}
use Rattle.dl_local.proofs.nodes.is_off.Goals as goal

pub returns-in-Some : goal.returns-in-Some
returns-in-Some c =
    c.lacks_one.ensures ∙ sym (off_each c.in-Some.datatype.now (tree_at c.args.arena.now.trees) c.args.facets.now)
    ∙ ap (λ o. is_off o (trees_at c.args.arena.now.trees c.args.facets.now)) c.in-Some.ensures
