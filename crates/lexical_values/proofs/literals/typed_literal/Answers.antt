use Rattle.std.proofs.Common.{Err, ap, refl, sym}
use Rattle.std.specs.Str.{chars}
use Rattle.lexical_values.proofs.TypedLiteralLaws.{denoted_is_found, nothing_is_denoted}
use Rattle.lexical_values.proofs.literals.typed_literal.Goals as goal

pub returns-in-Ok : goal.returns-in-Ok
returns-in-Ok c = sym (denoted_is_found (chars c.args.form.now) c.args.datatype c.in-Ok.literal c.in-Ok.ensures.ok)

pub returns-in-Err-BadLiteral : goal.returns-in-Err-BadLiteral
returns-in-Err-BadLiteral c = sym (nothing_is_denoted (chars c.args.form.now) c.args.datatype _ refl (c.in-Err-BadLiteral.ensures.bad.0 (ap Err c.in-Err-BadLiteral.field-0-is)))
