use Rattle.owl_canon.proofs.Digits.{digits_told}
use Rattle.owl_canon.proofs.calls.digest_text.Goals as goal

pub returns : goal.returns
returns c =
    digits_told c.of.result _ c.as_str.result.now c.in_ok-digest.digest _ c.of.ensures c.as_str.ensures.value c.in_ok-digits.ensures c.in_ok-digest.ensures.digest
