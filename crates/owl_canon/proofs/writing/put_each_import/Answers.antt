use Rattle.std.proofs.Common.{List, ℕ, subst}
use Rattle.owl_canon.specs.Bytes.{text_bytes}
use Rattle.owl_canon.specs.Limits.{IsText}
use Rattle.owl_canon.specs.Sinks.{Stops}
use Rattle.owl_canon.proofs.Putting.{one_stops, passed_with}
use Rattle.owl_canon.proofs.writing.put_each_import.Goals as goal

pub returns-in_err-put_text-clause-stopped : goal.returns-in_err-put_text-clause-stopped
returns-in_err-put_text-clause-stopped c =
    let fault = c.in_err-put_text.field-0.0 in
    let here : Stops c.iris.sink (text_bytes c.iri-item.result) fault = subst (λ (text : List ℕ). Stops c.iris.sink (text_bytes text) fault) c.text.ensures.chars c.in_err-put_text.ensures.stopped in
    passed_with c.from_residual.result fault _ c.from_residual.ensures.1
    (one_stops IsText text_bytes c.args.sink.now c.iris.sink c.args.iris.now c.iris.iri-index c.iri-item.result fault c.iris.invariant c.iris-test.true c.iri-item.is here)
