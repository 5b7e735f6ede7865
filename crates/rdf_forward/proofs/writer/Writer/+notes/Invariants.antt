use Rattle.std.proofs.Common.{◌*◌, ◌+◌, ◌≤◌, length}
use Rattle.owl_arena.specs.Held.{AreHeld}
use Rattle.rdf_counts.proofs.ArenaLaws.{above_all}
use Rattle.rdf_forward.proofs.Annotations.{NotesOn}
use Rattle.rdf_forward.proofs.writer.Writer.+notes.Given as goal

abbrev pub decreases-write_note : goal.decreases-write_note
decreases-write_note l = 2 * l.id + 1

abbrev pub decreases-write_notes : goal.decreases-write_notes
decreases-write_notes l = 2 * above_all l.ids.now

abbrev pub invariant-write_notes-loop-left : goal.invariant-write_notes-loop-left
invariant-write_notes-loop-left l = NotesOn l.arena.trees l.holder l.initial.self l.self l.ids l.left × AreHeld l.arena.trees l.left × (above_all l.left ≤ above_all l.ids)

abbrev pub decreases-write_notes-loop-left : goal.decreases-write_notes-loop-left
decreases-write_notes-loop-left l = length l.left
