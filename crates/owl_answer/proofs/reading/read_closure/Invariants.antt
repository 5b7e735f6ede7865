use Rattle.std.proofs.Common.{◌≡◌, ◌≤◌, drop, length, map}
use Rattle.std.specs.Vec.Iter.{into_iter_items, into_iter_len}
use Rattle.owl_documents.specs.Documents.{parsed_of}
use Rattle.owl_answer.proofs.Readings.{IsReadBefore}
use Rattle.owl_answer.proofs.reading.read_closure.Given as goal

-- what was read, and what is left
abbrev pub invariant-loop-document : goal.invariant-loop-document
invariant-loop-document l = record {
  read : IsReadBefore (map parsed_of l.fn.docs.items) l.closure.kinds l.closure.places.items l.place l.said.items;
  left : into_iter_items l.document-iterator ≡ drop l.place l.fn.docs.items;
  within : l.place ≤ length l.fn.docs.items;
  len : into_iter_len l.document-iterator ≡ length (into_iter_items l.document-iterator);
}
