use Rattle.std.proofs.Common.{Err, ap}
use Rattle.std.specs.Str.{chars}
use Rattle.ttl_grammar.specs.States.{literal_term}
use Rattle.lexical_values.proofs.TypedLiteralLaws.{denoted_is_found}
use Rattle.ttl_read.proofs.Literals.{refused}
use Rattle.ttl_read.proofs.terms.typed.Goals as goal

pub returns-in-Ok : goal.returns-in-Ok
returns-in-Ok c = ap literal_term (denoted_is_found (chars c.args.form.now) c.args.datatype c.in-Ok.literal c.in-Ok.ensures.ok)

pub returns-in-Err : goal.returns-in-Err
returns-in-Err c = refused c.in-Err.fault (chars c.args.form.now) c.args.datatype c.of_literal.result c.of_literal.ensures (λ e. c.in-Err.ensures.bad.0 (ap Err e))
