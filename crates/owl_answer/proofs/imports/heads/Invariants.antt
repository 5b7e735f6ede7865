use Rattle.std.proofs.Common.{◌≡◌, map, take}
use Rattle.owl_close.specs.Imports.{heads_of}
use Rattle.owl_documents.specs.Documents.{parsed_of}
use Rattle.owl_answer.specs.Outcome.{heads_in}
use Rattle.owl_answer.proofs.imports.heads.Given as goal

abbrev pub invariant-loop-doc : goal.invariant-loop-doc
invariant-loop-doc l = heads_of l.heads.items ≡ heads_in (map parsed_of (take l.doc-index l.docs))
