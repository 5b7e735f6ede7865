use Rattle.std.proofs.Common.{◌++◌, List, ℕ, subst, sym}
use Rattle.graph_walks.specs.Parts.{AreParts}
use Rattle.graph_walks.proofs.orders.faults.Goals as goal

pub fault_marks-requires-clause-numbers : goal.fault_marks-requires-clause-numbers
fault_marks-requires-clause-numbers c =
    subst (λ (numbers : List ℕ). AreParts c.args.nodes (c.args.leads.now ++ c.args.below.now) numbers) (sym c.deref.ensures.value) c.in_ok-numbers.ensures
