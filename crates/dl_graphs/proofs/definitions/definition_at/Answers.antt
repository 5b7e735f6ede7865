use Rattle.std.proofs.Common.{◌∙◌, arith, sym}
use borrow.Author.Tests.{ltb-false, ltb-true}
use Rattle.owl_arena.specs.Held.{tree_at}
use Rattle.dl_graphs.proofs.DefinitionLaws.{definition_by, no_definition_by, no_definition_there}
use Rattle.owl_tree.proofs.TagLaws.{tags_unequal}
use Rattle.owl_tree.proofs.ShapeTestLaws.{not_other}
use Rattle.dl_graphs.proofs.definitions.definition_at.Goals as goal
use Rattle.dl_graphs.proofs.definitions.definition_at.Goals.{in_default-via-then-kids-lt3, in_default-via-else-kids-lt3+else-this-lt4}

pub returns-then-ne : goal.returns-then-ne
returns-then-ne c =
    no_definition_there c.args.arena.now.trees (tree_at c.args.arena.now.trees c.args.id) (λ e. tags_unequal _ _ _ c.ne.ensures c.if-ne.true (c.tag.ensures ∙ e))

pub returns-in-len3 : goal.returns-in-len3
returns-in-len3 c =
    let e = sym c.tag.ensures ∙ not_other _ _ _ c.ne.ensures c.if-ne.false in
    definition_by c.args.arena.now.trees c.args.id c.kids.result.now c.datatype-item.result c.range-item.result c.requires.shared c.requires.axiom e c.in-len3.len_at_least c.in-len3.len_below c.datatype-item.is c.range-item.is c.kids.ensures.kids c.kids.ensures.below

pub returns-in_default : goal.returns-in_default
returns-in_default c =
    let e = sym c.tag.ensures ∙ not_other _ _ _ c.ne.ensures c.if-ne.false in
    no_definition_by c.args.arena.now.trees c.args.id c.kids.result.now e (elim c.in_default.branch [
      | in_default-via-then-kids-lt3 w ↦ λ l. absurd (omega (arith, ltb-true, ltb-false))
      | in_default-via-else-kids-lt3+else-this-lt4 w ↦ λ l. absurd (omega (arith, ltb-true, ltb-false))
    ]) c.kids.ensures.kids
