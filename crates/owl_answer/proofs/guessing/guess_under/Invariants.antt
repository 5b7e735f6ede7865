use Rattle.std.proofs.Common.{◌≡◌, length}
use Rattle.std.specs.Vec.Iter.{into_iter_items, into_iter_len}
use Rattle.owl_answer.proofs.GuessedDocuments.{AreGuessedSoFar}
use Rattle.owl_answer.proofs.guessing.guess_under.Given as goal

-- what was guessed, and what is left
abbrev pub invariant-loop-document : goal.invariant-loop-document
invariant-loop-document l = record {
  all : AreGuessedSoFar l.kinds l.fn.docs.items l.guessed.items (into_iter_items l.document-iterator);
  len : into_iter_len l.document-iterator ≡ length (into_iter_items l.document-iterator);
}
