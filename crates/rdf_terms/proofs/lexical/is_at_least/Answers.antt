use Rattle.std.proofs.Common.{FitsSigned, refl, rules}
use Rattle.std.specs.Prelude.{◌≤ℤ◌}
use Rattle.std.specs.Str.{chars}
use Rattle.std.specs.Str.Parse.{signed_digits_value}
use mir.Syntax.{w128}
use Rattle.rdf_terms.proofs.IntegerForms.{bound_test, if_bound, least_of, number_of}
use Rattle.rdf_terms.proofs.lexical.is_at_least.Goals as goal

pub returns-in-Ok : goal.returns-in-Ok
returns-in-Ok c = λ run.
    let number : FitsSigned w128 c.in-Ok.number = search rules in
    let least : FitsSigned w128 c.in-Some.least = search rules in
    if_bound c.args.least c.in-Some.least (λ least. least ≤ℤ signed_digits_value 10 (chars c.args.form.now)) _ c.in-Some.is
    (bound_test w128 c.in-Some.least c.in-Ok.number _ _ least number refl (number_of c.args.form.now c.in-Ok.number c.utf8.form c.in-Ok.ensures.value.0.1 run))

pub returns-in-Err : goal.returns-in-Err
returns-in-Err c = λ run.
    let least : FitsSigned w128 c.in-Some.least = search rules in
    if_bound c.args.least c.in-Some.least (λ least. least ≤ℤ signed_digits_value 10 (chars c.args.form.now)) _ c.in-Some.is
    (least_of w128 c.in-Some.least c.args.form.now c.is_negative.result c.utf8.form least c.in-Err.ensures.value.0 c.is_negative.ensures run)
