use Rattle.std.proofs.Common.{sym, ap, ◌∙◌, lit<}
use Rattle.std.specs.Str.{chars}
use Rattle.std.proofs.lemmas.Str.{chars-nil}
use Rattle.iri_references.specs.References.{slash}
use Rattle.iri_references.proofs.Characters.{find_cut, none_of}
use Rattle.iri_references.proofs.Marks.{at_mark, without_mark}
use Rattle.iri_references.proofs.cuts.cut_at_slash.Goals as goal

pub returns-in-Some-clause-before : goal.returns-in-Some-clause-before
returns-in-Some-clause-before c =
    let found = find_cut slash c.args.text.now c.in-Some.place c.utf8.text c.in-Some.ensures.cases (lit< tt) in
    ap chars c.split_at.ensures.front ∙ sym (at_mark slash (chars c.args.text.now) _ found.behind found.parts found.first).front

pub returns-in-Some-clause-from : goal.returns-in-Some-clause-from
returns-in-Some-clause-from c =
    let found = find_cut slash c.args.text.now c.in-Some.place c.utf8.text c.in-Some.ensures.cases (lit< tt) in
    ap chars c.split_at.ensures.back ∙ found.rest ∙ sym (at_mark slash (chars c.args.text.now) _ found.behind found.parts found.first).rest

pub returns-in-None-clause-before : goal.returns-in-None-clause-before
returns-in-None-clause-before c =
    sym (without_mark slash (chars c.args.text.now) (none_of _ c.args.text.now c.utf8.text c.in-None.ensures.cases)).front

pub returns-in-None-clause-from : goal.returns-in-None-clause-from
returns-in-None-clause-from c =
    chars-nil ∙ sym (without_mark slash (chars c.args.text.now) (none_of _ c.args.text.now c.utf8.text c.in-None.ensures.cases)).rest
