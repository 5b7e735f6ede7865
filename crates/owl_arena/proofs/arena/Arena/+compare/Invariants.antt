use Rattle.owl_arena.proofs.arena.Arena.+compare.Given as goal

abbrev pub decreases-compare : goal.decreases-compare
decreases-compare l = l.a
