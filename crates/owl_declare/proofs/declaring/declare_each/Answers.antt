use Rattle.std.proofs.Common.{rules}
use Rattle.owl_declare.proofs.DeclaringLaws.{one_declared_more}
use Rattle.owl_declare.proofs.declaring.declare_each.Goals as goal

pub needs-preserved : goal.needs-preserved
needs-preserved c =
    one_declared_more c.args.arena.now.trees c.needs.arena.trees c.declaration.new.arena.trees c.needs.made.items c.args.axioms.now c.push.new.self.items c.args.needs.now
    c.needs.need-index c.in_ok-id.id c.need-item.result c.in_ok-copy.field-0 c.needs.invariant c.needs-test.true c.need-item.is c.in_ok-copy.ensures c.in_ok-id.ensures.made (search rules)
