use Rattle.std.proofs.Common.{ap, ◌∙◌}
use Rattle.owl_arena.specs.Held.{tree_at, trees_at}
use Rattle.owl_tree.specs.Trees.{tag_of}
use Rattle.dl_rules.specs.Local.{restricts_wrongly}
use Rattle.dl_local.proofs.OwnLaws.{node_own}
use Rattle.dl_local.proofs.nodes.node_faults.Goals as goal

pub returns : goal.returns
returns c = λ o each.
    node_own o (tree_at c.args.arena.now.trees c.args.id) c.restricts_wrongly.result c.has_composite_kid.result c.has_anonymous_kid.result c.requires.node
    (c.restricts_wrongly.ensures
    ∙ ap (λ t. restricts_wrongly t (trees_at c.args.arena.now.trees c.kids.result.now)) c.tag.ensures
    ∙ ap (restricts_wrongly (tag_of (tree_at c.args.arena.now.trees c.args.id))) c.kids.ensures.kids)
    (c.has_composite_kid.ensures o each) c.has_anonymous_kid.ensures
