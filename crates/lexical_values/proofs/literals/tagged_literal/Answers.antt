-- A form with a language tag denotes a text with it.
use Rattle.std.proofs.Common.{Err, ap, refl}
use Rattle.lexical_values.proofs.literals.tagged_literal.Goals as goal

pub unreachable-requires : goal.unreachable-requires
unreachable-requires c = c.in-Err-BadLiteral.ensures.bad.0 (ap Err c.in-Err-BadLiteral.field-0-is) _ refl
