-- Bytes that read back to a document.
use Rattle.std.specs.Prelude.{◌≡◌, ℕ, List, map}
use Rattle.man_grammar.specs.Documents.{ReadsManchester}
use Rattle.man_raw.specs.Documents.{DocumentTree}
use Rattle.owl_writing.specs.Tables.{as_declared}
use Rattle.man_text.specs.Undecided.{unplaced_document}

-- The bytes are read to this document, with each of its prefixes declared, but for the places of its pieces.
pub record ReadsBack (bytes : List ℕ) (d : DocumentTree) : Type 0 where
  pub document : DocumentTree
  pub reads : ReadsManchester bytes document
  pub same : unplaced_document document ≡ record d { prefixes = map as_declared d.prefixes }
