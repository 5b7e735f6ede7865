use Rattle.std.proofs.Common.{◌++◌, ◌∙◌, length, sym}
use Rattle.std.specs.Str.{encode_utf8_all}
use Rattle.std.proofs.lemmas.List.{append_assoc}
use Rattle.owl_canon.specs.Bytes.{number_bytes}
use Rattle.owl_canon.proofs.Finding.{text_back}
use Rattle.owl_canon.proofs.input.Input.text.Goals as goal

pub returns-in-Ok : goal.returns-in-Ok
returns-in-Ok c = λ text more h e.
    let bytes = encode_utf8_all text in
    let count = c.in_ok-count.ensures (length bytes) (bytes ++ more) h.few (e ∙ append_assoc (number_bytes (length bytes)) bytes more) in
    let found = c.in_ok-bytes.ensures bytes more (sym count.0) count.1 in
    (text_back text c.in-Ok.text.now h (c.in-Ok.ensures.cases.0 ∙ found.0), found.1)
