use Rattle.std.proofs.Common.{refl}
use Rattle.rdf_nodes.proofs.OfSortLaws.{nothing_of_sort}
use Rattle.rdf_nodes.specs.Operands.{by_itself, by_node}
use Rattle.rdf_nodes.proofs.Steps.{found_more, none_more}
use Rattle.rdf_nodes.proofs.Denoting.{nothing_denoted, small_told}
use Rattle.rdf_nodes.proofs.source.Source.operand.Goals as goal

pub returns-in-Some-clause-operand : goal.returns-in-Some-clause-operand
returns-in-Some-clause-operand c = by_node _ c.in-Some.ensures.node

pub returns-in-None-clause-operand : goal.returns-in-None-clause-operand
returns-in-None-clause-operand c = found_more (λ o. by_itself o) c.itself.result c.itself.ensures.own

pub returns-in-None-clause-none : goal.returns-in-None-clause-none
returns-in-None-clause-none c =
    none_more
    (λ none told h. nothing_of_sort c.args.self.now.graph.now c.args.self.now.kinds.now c.args.sort c.args.term.now told (none (small_told c.args.sort c.args.term.now told)) (c.in-None.ensures.none refl) h)
    c.itself.result c.itself.ensures.none

pub returns-in-None-clause-no_tree : goal.returns-in-None-clause-no_tree
returns-in-None-clause-no_tree c =
    none_more
    (λ none wanted. nothing_denoted c.args.self.now.graph.now c.args.self.now.kinds.now c.args.sort c.args.term.now wanted.0 (none wanted.1) (c.in-None.ensures.none refl))
    c.itself.result c.itself.ensures.none
