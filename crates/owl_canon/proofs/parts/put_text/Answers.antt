use Rattle.std.proofs.Common.{◌<◌, ◌^◌, List, ℕ, length, subst}
use Rattle.std.specs.Prelude.{OnOk, IfErr}
use Rattle.owl_canon.specs.Sinks.{Stops, Takes}
use Rattle.owl_canon.proofs.Putting.{bytes_of, utf8_text}
use Rattle.owl_canon.proofs.parts.put_text.Goals as goal

pub returns-clause-taken : goal.returns-clause-taken
returns-clause-taken c =
    subst (λ (bs : List ℕ). OnOk c.put_bytes.result (Takes c.args.sink.now bs c.put_bytes.new.sink)) (bytes_of c.args.text.now c.as_bytes.result.now c.utf8.text c.as_bytes.ensures.value) c.put_bytes.ensures.taken

pub returns-clause-stopped : goal.returns-clause-stopped
returns-clause-stopped c =
    subst (λ (bs : List ℕ). IfErr c.put_bytes.result (Stops c.args.sink.now bs)) (bytes_of c.args.text.now c.as_bytes.result.now c.utf8.text c.as_bytes.ensures.value) c.put_bytes.ensures.stopped

pub returns-clause-text : goal.returns-clause-text
returns-clause-text c =
    utf8_text c.args.text.now c.utf8.text (subst (λ (bs : List ℕ). length bs < 2 ^ 64) c.as_bytes.ensures.value c.put_bytes.ensures.few)
