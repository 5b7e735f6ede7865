use Rattle.std.proofs.Common.{take}
use Rattle.owl_doc.specs.Entities.{AddsAll}
use Rattle.owl_documents.specs.Documents.{guessed_entities}
use Rattle.owl_answer.proofs.kinds.declare_guesses.Given as goal

abbrev pub invariant-guessed : goal.invariant-guessed
invariant-guessed l = AddsAll l.fn.kinds (guessed_entities (take l.iri-index l.guessed)) l.kinds
