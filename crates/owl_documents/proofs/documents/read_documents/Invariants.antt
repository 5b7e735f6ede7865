use Rattle.std.proofs.Common.{◌≡◌, ◌≤◌, ◌-◌, length, map, take}
use Rattle.owl_command.specs.Commands.{names_of, request_of, sources_of}
use Rattle.owl_documents.specs.Documents.{most_bytes_of_all, parsed_of}
use Rattle.owl_documents.proofs.Taking.{AreTaken}
use Rattle.owl_documents.proofs.documents.read_documents.Given as goal

abbrev pub invariant-loop-alloc : goal.invariant-loop-alloc
invariant-loop-alloc g l = record {
  within : l.size ≤ most_bytes_of_all;
  few : length l.docs.items ≤ length (names_of (request_of l.command));
  told : g.S.Shelf.tells l.shelf ≡ g.S.Shelf.tells l.fn.shelf;
  taken : AreTaken (record { tells = g.S.Shelf.tells l.fn.shelf; old = g.S.Shelf.left l.fn.shelf; new = g.S.Shelf.left l.shelf; faults = g.S.Shelf.faults l.fn.shelf; later = g.S.Shelf.faults l.shelf }) (take (length l.docs.items) (sources_of (request_of l.command))) (map parsed_of l.docs.items) l.size;
}

abbrev pub decreases-loop-alloc : goal.decreases-loop-alloc
decreases-loop-alloc g l = length (names_of (request_of l.command)) - length l.docs.items
