use Rattle.std.proofs.Common.{◌∙◌, arith, sym}
use borrow.Author.Tests.{ltb-false, ltb-true}
use Rattle.owl_arena.specs.Held.{tree_at}
use Rattle.owl_tree.proofs.ShapeTestLaws.{not_other}
use Rattle.dl_graphs.proofs.AssertionLaws.{IsAssertion, assertion_by, its_expression, its_link, no_link_by, no_link_there}
use Rattle.owl_tree.proofs.TagLaws.{tags_unequal}
use Rattle.dl_graphs.proofs.links.link_at.Goals as goal
use Rattle.dl_graphs.proofs.links.link_at.Goals.{in_default-via-then-kids-lt4, in_default-via-else-kids-lt4+else-this-lt5}

pub returns-then-ne : goal.returns-then-ne
returns-then-ne c =
    no_link_there c.args.arena.now.trees (tree_at c.args.arena.now.trees c.args.id) (λ e. tags_unequal _ _ _ c.ne.ensures c.if-ne.true (c.tag.ensures ∙ e))

pub link_between-requires : goal.link_between-requires
link_between-requires c =
    let ts = c.args.arena.now.trees in
    let e = sym c.tag.ensures ∙ not_other _ _ _ c.ne.ensures c.if-ne.false in
    let a : IsAssertion ts c.args.id c.property-item.result c.subject-item.result c.object-item.result = assertion_by ts c.args.id c.kids.result.now c.property-item.result c.subject-item.result c.object-item.result c.requires.axiom e c.in-len4.len_at_least c.in-len4.len_below c.property-item.is c.subject-item.is c.object-item.is c.kids.ensures.kids c.kids.ensures.below in
    record { shared = c.requires.shared; held = a.held; property = its_expression ts c.requires.shared c.args.id _ _ _ c.requires.axiom a }

pub returns-in-len4 : goal.returns-in-len4
returns-in-len4 c =
    let ts = c.args.arena.now.trees in
    let e = sym c.tag.ensures ∙ not_other _ _ _ c.ne.ensures c.if-ne.false in
    let a : IsAssertion ts c.args.id c.property-item.result c.subject-item.result c.object-item.result = assertion_by ts c.args.id c.kids.result.now c.property-item.result c.subject-item.result c.object-item.result c.requires.axiom e c.in-len4.len_at_least c.in-len4.len_below c.property-item.is c.subject-item.is c.object-item.is c.kids.ensures.kids c.kids.ensures.below in
    its_link ts c.requires.shared c.args.id _ _ _ c.requires.axiom a c.link_between.result c.link_between.ensures

pub returns-in_default : goal.returns-in_default
returns-in_default c =
    let e = sym c.tag.ensures ∙ not_other _ _ _ c.ne.ensures c.if-ne.false in
    no_link_by c.args.arena.now.trees c.args.id c.kids.result.now e (elim c.in_default.branch [
      | in_default-via-then-kids-lt4 w ↦ λ l. absurd (omega (arith, ltb-true, ltb-false))
      | in_default-via-else-kids-lt4+else-this-lt5 w ↦ λ l. absurd (omega (arith, ltb-true, ltb-false))
    ]) c.kids.ensures.kids
