use Rattle.std.proofs.Common.{subst, sym}
use Rattle.owl_arena.specs.Held.{tree_at}
use Rattle.profile_sorts.specs.Rows.{IsRowOf}
use Rattle.profile_sorts.proofs.MemoLaws.{leaf_told, node_told}
use Rattle.profile_sorts.proofs.pass.sorts_at.Goals as goal

pub returns-in-Some : goal.returns-in-Some
returns-in-Some c = λ known.
    let row = subst (IsRowOf c.tag.result) (sym c.row_at-row.ensures) (c.requires.rows c.tag.result) in
    leaf_told (tree_at c.args.arena.now.trees c.args.id) c.tag.result c.in-Some.atom.now c.leaf_sorts.result c.tag.ensures c.in-Some.ensures.atom (c.leaf_sorts.ensures c.tag.result row)

pub returns-in-None : goal.returns-in-None
returns-in-None c = λ known.
    let row = subst (IsRowOf c.tag.result) (sym c.row_at-row.ensures) (c.requires.rows c.tag.result) in
    node_told c.args.arena.now.trees c.args.sets.now c.args.id c.kids.result.now c.tag.result c.node_sorts.result c.tag.ensures c.in-None.ensures.atom c.kids.ensures.below c.kids.ensures.kids (c.node_sorts.ensures c.tag.result row) known
