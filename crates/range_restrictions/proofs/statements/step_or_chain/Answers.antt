use Rattle.std.proofs.Common.{arith, sym, ◌∙◌}
use Rattle.owl_tree.proofs.ShapeTestLaws.{not_other}
use Rattle.owl_tree.proofs.TagLaws.{tags_unequal}
use Rattle.range_restrictions.proofs.Stating.{last_within, says_chain, says_no_chain, says_step}
use Rattle.range_restrictions.proofs.statements.step_or_chain.Goals as goal

pub returns-then-ne : goal.returns-then-ne
returns-then-ne c =
    rw (c.place.ensures, c.place-then-ne.ensures)
    (says_step c.args.arena.now.trees c.args.below c.args.above c.requires.below c.requires.above (λ e. tags_unequal _ _ _ c.ne.ensures c.if-ne.true (c.tag.ensures ∙ e)))

pub returns-in-empty : goal.returns-in-empty
returns-in-empty c =
    says_no_chain c.args.arena.now.trees c.args.below c.args.above c.kids.result.now (sym c.tag.ensures ∙ not_other _ _ _ c.ne.ensures c.if-ne.false) c.kids.ensures.kids (omega (arith, c.in-empty.len_below))

pub returns-in-len1-up : goal.returns-in-len1-up
returns-in-len1-up c =
    rw (c.place-in-len1-up.ensures, c.place-in-len1-up-2.ensures)
    (says_chain c.args.arena.now.trees c.args.below c.args.above c.last-item.result c.kids.result.now c.requires.above
    (sym c.tag.ensures ∙ not_other _ _ _ c.ne.ensures c.if-ne.false) c.kids.ensures.kids c.in-len1-up.len_at_least c.last-item.is
    (last_within c.args.arena.now.trees c.kids.result.now c.args.below c.last-item.result c.requires.below c.in-len1-up.len_at_least c.last-item.is c.kids.ensures.below))
