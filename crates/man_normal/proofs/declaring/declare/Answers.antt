use Rattle.std.proofs.Common.{rules}
use Rattle.man_normal.proofs.DeclaringLaws.{declared_made}
use Rattle.man_normal.proofs.declaring.declare.Goals as goal

pub returns-clause-made : goal.returns-clause-made
returns-clause-made c =
    declared_made c.args.arena.now.trees c.declaration.new.arena.trees c.args.made.now.items c.push.new.self.items c.args.name c.in_ok-id.id c.distinct-trees.ensures.shared c.requires.held c.requires.name (search rules) c.in_ok-id.ensures.made (search rules)
