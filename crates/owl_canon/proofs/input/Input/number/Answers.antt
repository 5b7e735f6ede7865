use Rattle.std.proofs.Common.{◌≡◌, ◌∙◌, ap, arith, length}
use Rattle.owl_canon.specs.Bytes.{number_bytes}
use Rattle.owl_canon.proofs.Finding.{number_back, number_long, passed_on}
use Rattle.owl_canon.proofs.input.Input.number.Goals as goal

pub returns-in_err-bytes : goal.returns-in_err-bytes
returns-in_err-bytes c = λ number more l e.
    passed_on c.from_residual.result c.in_err-bytes.field-0.0 _ c.from_residual.ensures.1 (c.in_err-bytes.ensures (number_bytes number) more (number_long number) e)

pub returns-then-bytes-ne8 : goal.returns-then-bytes-ne8
returns-then-bytes-ne8 c = λ number more l e.
    let found = c.in_ok-bytes.ensures (number_bytes number) more (number_long number) e in
    let long : length c.in_ok-bytes.bytes.now ≡ 8 = ap length found.0 ∙ number_long number in
    absurd (omega arith)

pub returns : goal.returns
returns c = λ number more l e.
    let found = c.in_ok-bytes.ensures (number_bytes number) more (number_long number) e in
    (c.from_be_bytes.ensures ∙ number_back c.in_ok-bytes.bytes.now number l found.0, found.1)
