use Rattle.std.proofs.Common.{rules}
use Rattle.owl_declarations.proofs.DeclaringLaws.{one_declared}
use Rattle.owl_declarations.proofs.declaring.declare_all.Goals as goal

pub iris-preserved : goal.iris-preserved
iris-preserved c =
    one_declared c.args.arena.now.trees c.iris.arena.trees c.declaration.new.arena.trees c.iris.made.items c.args.axioms.now c.push.new.self.items c.args.kind c.args.iris.now
    c.iris.iri-index c.in_ok-id.id c.iri-item.result c.in_ok-copy.field-0 c.iris.invariant c.iris-test.true c.iri-item.is c.in_ok-copy.ensures c.in_ok-id.ensures.made (search rules)
