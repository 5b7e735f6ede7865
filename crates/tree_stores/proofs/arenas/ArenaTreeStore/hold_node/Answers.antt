use Rattle.std.proofs.Common.{ap, Err, ◌∙◌}
use Rattle.std.specs.Prelude.{Some}
use Rattle.tree_stores.proofs.Growing.{added_keeps, node_is, node_too_deep, node_too_heavy, standing_held}
use Rattle.tree_stores.proofs.arenas.ArenaTreeStore.hold_node.Goals as goal

pub node-requires : goal.node-requires
node-requires c = standing_held c.args.self.now.trees c.args.kids.items c.requires

pub returns-in-Ok-clause-held : goal.returns-in-Ok-clause-held
returns-in-Ok-clause-held c = λ ts h. c.in-Ok.ensures.id ∙ ap Some (node_is c.args.self.now.trees ts c.args.tag c.args.kids.items h)

pub returns-in-Ok-clause-kept : goal.returns-in-Ok-clause-kept
returns-in-Ok-clause-kept c = added_keeps c.args.self.now.trees c.node.new.self.trees _ c.in-Ok.ensures.added

pub returns-in-Err-TooDeep-clause-fault : goal.returns-in-Err-TooDeep-clause-fault
returns-in-Err-TooDeep-clause-fault c = λ ts h. node_too_deep c.args.self.now.trees ts c.args.tag c.args.kids.items h (c.in-Err-TooDeep.ensures.too_deep.0 (ap Err c.in-Err-TooDeep.field-0-is))

pub returns-in-Err-TooHeavy-clause-fault : goal.returns-in-Err-TooHeavy-clause-fault
returns-in-Err-TooHeavy-clause-fault c = λ ts h. node_too_heavy c.args.self.now.trees ts c.args.tag c.args.kids.items h (c.in-Err-TooHeavy.ensures.too_heavy.0 (ap Err c.in-Err-TooHeavy.field-0-is))
