use Rattle.std.proofs.Common.{lit<}
use Rattle.std.specs.Str.{chars}
use Rattle.rdf_terms.specs.Literals.{PlainForm, PlainParts}
use Rattle.rdf_terms.proofs.Characters.{none_of}
use Rattle.rdf_terms.proofs.LiteralForms.{alike, given, last_cut, no_form, parts_of_form, refused}
use Rattle.rdf_terms.proofs.literal.plain.Goals as goal

pub returns-in-Some-clause-ok : goal.returns-in-Some-clause-ok
returns-in-Some-clause-ok c =
    let h = c.in-Some.ensures.cases in
    let cut = last_cut 64 c.args.form.now c.in-Some.text c.in-Some.rest h.0 h.1 c.utf8.form h.2 h.3 h.4 (lit< tt) in
    given c.plain_of_parts.result (PlainParts (chars c.in-Some.text.now) (chars c.in-Some.rest.now)) (PlainForm (chars c.args.form.now)) (λ l. (parts_of_form _ _ _ cut.0 cut.1 l).0) c.plain_of_parts.ensures.ok

pub returns-in-Some-clause-bad : goal.returns-in-Some-clause-bad
returns-in-Some-clause-bad c =
    let h = c.in-Some.ensures.cases in
    let cut = last_cut 64 c.args.form.now c.in-Some.text c.in-Some.rest h.0 h.1 c.utf8.form h.2 h.3 h.4 (lit< tt) in
    alike c.plain_of_parts.result (PlainParts (chars c.in-Some.text.now) (chars c.in-Some.rest.now)) (PlainForm (chars c.args.form.now)) (parts_of_form _ _ _ cut.0 cut.1) c.plain_of_parts.ensures.bad

pub returns-in-None-clause-bad : goal.returns-in-None-clause-bad
returns-in-None-clause-bad c =
    refused (PlainForm (chars c.args.form.now)) (no_form (chars c.args.form.now) (none_of _ c.args.form.now c.utf8.form c.in-None.ensures.cases))
