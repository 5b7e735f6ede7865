use Rattle.man_write.specs.Parts.{said_at, words_seen}
use Rattle.man_write.specs.Plans.{members_in}
use Rattle.man_write.proofs.JoinedLaws.{AreJoined}
use Rattle.man_write.proofs.block.add_members.Given as goal

abbrev pub invariant-loop-place : goal.invariant-loop-place
invariant-loop-place l = AreJoined (words_seen l.words) (said_at l.prefixes l.arena.trees) l.fn.draft (members_in l.members) l.place l.draft
