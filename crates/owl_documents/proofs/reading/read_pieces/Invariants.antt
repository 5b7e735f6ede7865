use Rattle.std.proofs.Common.{◌≡◌, ◌++◌, ℕ, None, List, length}
use Rattle.owl_documents.proofs.reading.read_pieces.Given as goal

-- a front of the bytes was fed, and the rest is left
abbrev pub invariant-loop-rest : goal.invariant-loop-rest
invariant-loop-rest g l = record {
  fed : List ℕ;
  read : g.R.DocumentReader.Fed None l.reader fed;
  whole : l.fn.bytes ≡ fed ++ l.rest;
}

abbrev pub decreases-loop-rest : goal.decreases-loop-rest
decreases-loop-rest g l = length l.rest
