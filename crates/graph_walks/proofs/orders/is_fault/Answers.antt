use Rattle.std.proofs.Common.{◌≡◌, false, rules}
use Rattle.graph_walks.specs.Edges.{edges_of}
use Rattle.graph_walks.specs.Parts.{is_level}
use Rattle.graph_walks.proofs.FaultLaws.{no_fault}
use Rattle.graph_walks.proofs.orders.is_fault.Goals as goal

pub returns-in_ok-leads_back : goal.returns-in_ok-leads_back
returns-in_ok-leads_back c = λ leads below ways step. c.in_ok-leads_back.ensures leads below c.args.numbers.now ways step

pub returns-else-is_level : goal.returns-else-is_level
returns-else-is_level c =
    λ leads below ways step.
    let other : is_level c.args.numbers.now c.args.pair ≡ false = search rules in
    no_fault leads below (edges_of c.args.lead_edges.now) (edges_of c.args.below_edges.now) c.args.numbers.now ways c.args.pair.0 c.args.pair.1 step other
