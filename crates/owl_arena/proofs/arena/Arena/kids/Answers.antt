use Rattle.owl_arena.proofs.Kids.{branch_below, branch_kids}
use Rattle.owl_arena.proofs.arena.Arena.kids.Goals as goal

-- src/arena.rt:301:5
pub returns-in-Branch-clause-kids : goal.returns-in-Branch-clause-kids
returns-in-Branch-clause-kids c = branch_kids _ _ _ _ _ _ c.node_at.ensures.tree c.in-Branch.is c.deref.ensures.value

-- src/arena.rt:301:5
pub returns-in-Branch-clause-below : goal.returns-in-Branch-clause-below
returns-in-Branch-clause-below c = branch_below _ _ _ _ _ c.node_at.ensures.below c.in-Branch.is c.deref.ensures.value
