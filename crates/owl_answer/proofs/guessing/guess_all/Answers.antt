use Rattle.std.proofs.Common.{List, map, subst}
use Rattle.std.proofs.lemmas.Result.{IfOk-weaker}
use Rattle.owl_documents.specs.Documents.{parsed_of}
use Rattle.owl_documents.specs.declared.document.Document.{Document}
use Rattle.owl_answer.specs.KindsAt.{IsClosure}
use Rattle.owl_answer.proofs.guessing.guess_all.Goals as goal

pub returns : goal.returns
returns c =
    let closed = subst (λ (docs : List Document). IsClosure (map parsed_of docs) c.in_ok-closure.closure) c.deref.ensures.value c.in_ok-closure.ensures in
    IfOk-weaker c.guess_under.result _ _ (λ guessed e. record { kinds = c.in_ok-closure.closure.kinds; declared = closed.declared; are = e }) c.guess_under.ensures
