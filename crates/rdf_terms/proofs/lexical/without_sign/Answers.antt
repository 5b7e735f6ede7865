use Rattle.std.proofs.Common.{ap, lit<, sym}
use Rattle.std.specs.Str.Parse.{without_leading_sign}
use Rattle.rdf_terms.proofs.LexicalForms.{behind, no_mark, unsigned}
use Rattle.rdf_terms.proofs.lexical.without_sign.Goals as goal

pub returns-in-Some : goal.returns-in-Some
returns-in-Some c =
    let h = c.in-Some.ensures.cases in
    sym (ap without_leading_sign (behind 45 c.args.form.now c.in-Some.rest.now h.0 c.utf8.form h.1 h.2 (lit< tt)))

pub returns-in-Some-strip_prefix : goal.returns-in-Some-strip_prefix
returns-in-Some-strip_prefix c =
    let h = c.in-Some-strip_prefix.ensures.cases in
    sym (ap without_leading_sign (behind 43 c.args.form.now c.in-Some-strip_prefix.rest.now h.0 c.utf8.form h.1 h.2 (lit< tt)))

pub returns-in-None-strip_prefix : goal.returns-in-None-strip_prefix
returns-in-None-strip_prefix c =
    sym (unsigned _ (no_mark 45 c.args.form.now c.utf8.form c.in-None.ensures.cases) (no_mark 43 c.args.form.now c.utf8.form c.in-None-strip_prefix.ensures.cases)).whole
