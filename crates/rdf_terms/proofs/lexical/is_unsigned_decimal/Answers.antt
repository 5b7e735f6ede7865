use Rattle.std.proofs.Common.{ap, lit<, subst, ◌∷◌, ◌++◌, ◌∙◌}
use Rattle.std.specs.Str.{chars}
use Rattle.std.proofs.lemmas.Bool.{both_ways}
use Rattle.rdf_terms.specs.Datatypes.{fraction, pointed, whole}
use Rattle.rdf_terms.proofs.Characters.{none_of}
use Rattle.rdf_terms.proofs.Iris.{first_cut}
use Rattle.rdf_terms.proofs.Characters.{empty_chars, some_chars}
use Rattle.rdf_terms.proofs.LexicalForms.{Around, around, around_nothing, around_something, first_utf8, pointless}
use Rattle.rdf_terms.proofs.lexical.is_unsigned_decimal.Goals as goal

pub returns-then-is_empty : goal.returns-then-is_empty
returns-then-is_empty c =
    let cut = first_cut 46 c.args.form.now c.in-Some.before c.in-Some.after c.utf8.form c.in-Some.ensures.cases (lit< tt) in
    let empty = empty_chars c.is_empty.result c.in-Some.before.now c.is_empty.ensures c.if-is_empty.true in (
      λ t. fraction (chars c.in-Some.after.now) (c.is_digits.ensures.0 t) (cut.0 ∙ ap (λ x. x ++ 46 ∷ chars c.in-Some.after.now) empty),
      λ d. c.is_digits.ensures.1 (around_nothing _ (subst (λ x. Around x (chars c.in-Some.after.now)) empty (around _ _ _ cut.0 cut.1 d))),
    )

pub returns-then-is_digits : goal.returns-then-is_digits
returns-then-is_digits c =
    let cut = first_cut 46 c.args.form.now c.in-Some.before c.in-Some.after c.utf8.form c.in-Some.ensures.cases (lit< tt) in
    let some = some_chars c.is_empty.result c.in-Some.before.now (first_utf8 46 c.args.form.now c.in-Some.before c.in-Some.after c.utf8.form c.in-Some.ensures.cases (lit< tt)) c.is_empty.ensures c.if-is_empty.false in (
      λ t. pointed (chars c.in-Some.before.now) (chars c.in-Some.after.now) (c.is_digits-else-is_empty.ensures.0 c.if-is_digits.true) (c.are_digits.ensures.0 t) cut.0,
      λ d. c.are_digits.ensures.1 (around_something _ _ some (around _ _ _ cut.0 cut.1 d)).1,
    )

pub returns-else-is_digits : goal.returns-else-is_digits
returns-else-is_digits c =
    let cut = first_cut 46 c.args.form.now c.in-Some.before c.in-Some.after c.utf8.form c.in-Some.ensures.cases (lit< tt) in
    let some = some_chars c.is_empty.result c.in-Some.before.now (first_utf8 46 c.args.form.now c.in-Some.before c.in-Some.after c.utf8.form c.in-Some.ensures.cases (lit< tt)) c.is_empty.ensures c.if-is_empty.false in (
      λ t. absurd (both_ways c.is_digits-else-is_empty.result c.if-is_digits.false t),
      λ d. c.is_digits-else-is_empty.ensures.1 (around_something _ _ some (around _ _ _ cut.0 cut.1 d)).0,
    )

pub returns-in-None : goal.returns-in-None
returns-in-None c = (λ t. whole (c.is_digits-in-None.ensures.0 t), λ d. c.is_digits-in-None.ensures.1 (pointless _ (none_of _ c.args.form.now c.utf8.form c.in-None.ensures.cases) d))
