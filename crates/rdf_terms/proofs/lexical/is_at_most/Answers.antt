use Rattle.std.proofs.Common.{FitsSigned, refl, rules}
use Rattle.std.specs.Prelude.{◌≤ℤ◌}
use Rattle.std.specs.Str.{chars}
use Rattle.std.specs.Str.Parse.{signed_digits_value}
use mir.Syntax.{w128}
use Rattle.rdf_terms.proofs.IntegerForms.{bound_test, greatest_of, if_bound, number_of}
use Rattle.rdf_terms.proofs.lexical.is_at_most.Goals as goal

pub returns-in-Ok : goal.returns-in-Ok
returns-in-Ok c = λ run.
    let number : FitsSigned w128 c.in-Ok.number = search rules in
    let greatest : FitsSigned w128 c.in-Some.greatest = search rules in
    if_bound c.args.greatest c.in-Some.greatest (λ greatest. signed_digits_value 10 (chars c.args.form.now) ≤ℤ greatest) _ c.in-Some.is
    (bound_test w128 c.in-Ok.number c.in-Some.greatest _ _ number greatest (number_of c.args.form.now c.in-Ok.number c.utf8.form c.in-Ok.ensures.value.0.1 run) refl)

pub returns-in-Err : goal.returns-in-Err
returns-in-Err c = λ run.
    let greatest : FitsSigned w128 c.in-Some.greatest = search rules in
    if_bound c.args.greatest c.in-Some.greatest (λ greatest. signed_digits_value 10 (chars c.args.form.now) ≤ℤ greatest) _ c.in-Some.is
    (greatest_of w128 c.in-Some.greatest c.args.form.now c.is_negative.result c.utf8.form greatest c.in-Err.ensures.value.0 c.is_negative.ensures run)
