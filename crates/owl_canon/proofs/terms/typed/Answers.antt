use Rattle.std.proofs.Common.{Err, ap, sym}
use Rattle.owl_canon.proofs.terms.typed.Goals as goal

pub returns-in-Ok : goal.returns-in-Ok
returns-in-Ok c = λ literal h. sym (c.in-Ok.ensures.only literal h)

pub returns-in-Err-BadLiteral : goal.returns-in-Err-BadLiteral
returns-in-Err-BadLiteral c = λ literal h.
    absurd (c.in-Err-BadLiteral.ensures.bad.0 (ap Err c.in-Err-BadLiteral.field-0-is) literal h)
