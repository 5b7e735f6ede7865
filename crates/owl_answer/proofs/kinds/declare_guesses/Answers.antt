use Rattle.std.proofs.Common.{ℕ, List, subst}
use Rattle.std.proofs.lemmas.List.{take_all}
use Rattle.owl_doc.specs.Entities.{AddsAll}
use Rattle.owl_documents.specs.Documents.{guessed_entities}
use Rattle.owl_answer.proofs.KindsAt.{no_guesses, one_more_guess}
use Rattle.owl_answer.proofs.kinds.declare_guesses.Goals as goal

pub guessed-preserved : goal.guessed-preserved
guessed-preserved c =
    one_more_guess c.args.guessed.now c.guessed.iri-index c.iri-item.result c.in_ok-copy.field-0 c.args.kinds.now c.guessed.kinds c.declare.new.self c.guessed.invariant
    c.guessed-test.true c.iri-item.is c.in_ok-copy.ensures c.in_ok-declare.ensures.ok

pub returns : goal.returns
returns c =
    subst (λ (names : List (List ℕ)). AddsAll c.args.kinds.now (guessed_entities names) c.guessed.kinds) (take_all c.guessed.iri-index c.args.guessed.now c.guessed-test.false) c.guessed.invariant
