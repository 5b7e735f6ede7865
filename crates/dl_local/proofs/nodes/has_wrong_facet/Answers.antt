use Rattle.std.proofs.Common.{arith, rules, ◌∙◌}
use Rattle.owl_arena.specs.Held.{tree_at}
use Rattle.dl_local.proofs.OwnLaws.{facets_behind, no_facets}
use Rattle.dl_local.proofs.nodes.has_wrong_facet.Goals as goal

pub returns-in-empty : goal.returns-in-empty
returns-in-empty c = no_facets (tree_at c.args.arena.now.trees) c.args.kids.now (omega (arith, c.in-empty.len_below))

pub returns-in-len1-up : goal.returns-in-len1-up
returns-in-len1-up c = c.is_off.ensures ∙ facets_behind (tree_at c.args.arena.now.trees) c.args.kids.now c.datatype-item.result c.in-len1-up.len_at_least (search rules)
