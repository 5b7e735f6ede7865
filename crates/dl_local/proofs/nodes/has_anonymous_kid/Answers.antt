use Rattle.std.proofs.Common.{rules, sym, ◌∙◌}
use Rattle.owl_arena.specs.Held.{tree_at}
use Rattle.owl_tree.specs.Trees.{kids_in}
use Rattle.dl_local.proofs.OwnLaws.{named_told}
use Rattle.dl_local.proofs.nodes.has_anonymous_kid.Goals as goal

pub returns-then-asks_named : goal.returns-then-asks_named
returns-then-asks_named c =
    let same = named_told c.args.arena.now.trees (kids_in (tree_at c.args.arena.now.trees c.args.id)) c.kids.result.now _ c.some_anonymous.result c.kids.ensures.kids (search rules) c.some_anonymous.ensures in
    (λ h. sym same ∙ h, λ h. same ∙ h)
