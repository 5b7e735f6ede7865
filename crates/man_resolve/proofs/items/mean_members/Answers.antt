use Rattle.std.proofs.Common.{map, subst}
use Rattle.man_resolve.specs.declared.shape.Places.{Places}
use Rattle.man_resolve.specs.Building.{AddsTrees, leaves}
use Rattle.man_resolve.specs.Expressions.{all_of, knows, meant, placed}
use Rattle.man_resolve.proofs.ItemLaws.{members_added}
use Rattle.man_resolve.proofs.items.mean_members.Goals as goal

pub returns-clause-added : goal.returns-clause-added
returns-clause-added c =
    members_added (knows c.args.kinds.now) c.args.tag c.args.place (leaves c.args.subject) c.args.body.now c.in-Some.parts.now c.args.steps.now.items c.add_leaf.new.steps.items c.mean_each.new.steps.items c.in_ok-given.given c.in_ok-others.others c.takes.result
    c.in-Some.ensures c.takes.ensures c.if-not-takes.false c.in_ok-given.ensures.count c.in_ok-given.ensures.added
    (subst (λ (q : Places). AddsTrees c.add_leaf.new.steps.items c.mean_each.new.steps.items c.in_ok-others.others (all_of (placed q.first q.second q.others (map (meant (knows c.args.kinds.now)) c.in-Some.parts.now)))) c.all.ensures c.in_ok-others.ensures.added)
