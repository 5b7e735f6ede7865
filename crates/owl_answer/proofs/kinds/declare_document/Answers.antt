use Rattle.std.proofs.Common.{ℕ, List, subst}
use Rattle.std.proofs.lemmas.Result.{on_ok_weaker}
use Rattle.owl_doc.specs.Entities.{AddsAll}
use Rattle.owl_documents.specs.Documents.{graph_read_of, guessed_entities}
use Rattle.owl_answer.proofs.KindsAt.{guesses_added}
use Rattle.owl_answer.proofs.kinds.declare_document.Goals as goal

pub returns : goal.returns
returns c =
    on_ok_weaker c.declare_guesses.result
    (λ h.
    guesses_added (graph_read_of c.args.document.now) c.args.kinds.now c.declare_graph.new.kinds c.declare_guesses.new.kinds c.in_ok-declare_graph.ensures.ok
    (subst (λ (names : List (List ℕ)). AddsAll c.declare_graph.new.kinds (guessed_entities names) c.declare_guesses.new.kinds) c.deref.ensures.value h))
    c.declare_guesses.ensures
