use Rattle.std.proofs.Common.{◌<◌, ℕ}
use Rattle.graph_walks.specs.Parts.{AreBoth}
use Rattle.graph_walks.proofs.least.first_of_both.Given as goal

abbrev pub invariant-loop-place : goal.invariant-loop-place
invariant-loop-place l = (other : ℕ) → other < l.place → AreBoth l.forth l.back other → ⊥
