use Rattle.owl_arena.specs.Chains.{AreLinked}
use Rattle.owl_arena.specs.Mixes.{mixes}
use Rattle.owl_arena.proofs.table.link_all.Given as goal

abbrev pub invariant-loop-place : goal.invariant-loop-place
invariant-loop-place l = AreLinked l.heads l.nexts (mixes l.nodes) l.place
