use Rattle.std.proofs.Common.{◌∙◌}
use Rattle.rdf_asked.proofs.TypedNodes.{of_typed}
use Rattle.rdf_asked.proofs.typed.may_be_untyped.Goals as goal

pub returns-then-not-is_of_node : goal.returns-then-not-is_of_node
returns-then-not-is_of_node c g k table typed u = c.is_structural.ensures g table ∙ u.structural

pub returns-else-not-is_of_node : goal.returns-else-not-is_of_node
returns-else-not-is_of_node c g k table typed u =
    absurd (of_typed g k c.args.typed c.args.triple.now typed (c.is_of_node.ensures.0 c.if-not-is_of_node.false) u)
