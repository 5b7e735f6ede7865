use Rattle.std.proofs.Common.{List, ℕ, subst}
use Rattle.graph_walks.specs.Parts.{AreParts}
use Rattle.graph_walks.proofs.part_numbers.parts.Goals as goal

pub returns-then-branch : goal.returns-then-branch
returns-then-branch c =
    subst (λ (numbers : List ℕ). AreParts c.args.nodes c.args.pairs.now numbers) c.deref.ensures.value (c.in_ok-are_parts.ensures c.if-branch.true)
