use Rattle.std.proofs.Common.{sym}
use Rattle.std.specs.Str.{chars}
use Rattle.iri_references.proofs.Characters.{first_cut, none_of}
use Rattle.iri_references.proofs.Marks.{at_mark, without_mark}
use Rattle.iri_references.proofs.cuts.cut.Goals as goal

pub returns-in-Some-clause-before : goal.returns-in-Some-clause-before
returns-in-Some-clause-before c =
    let cut = first_cut c.args.mark c.args.text.now c.in-Some.front c.in-Some.back c.utf8.text c.in-Some.ensures.cases c.requires in
    sym (at_mark c.args.mark (chars c.args.text.now) (chars c.in-Some.front.now) (chars c.in-Some.back.now) cut.0 cut.1).front

pub returns-in-Some-clause-behind : goal.returns-in-Some-clause-behind
returns-in-Some-clause-behind c =
    let cut = first_cut c.args.mark c.args.text.now c.in-Some.front c.in-Some.back c.utf8.text c.in-Some.ensures.cases c.requires in
    sym (at_mark c.args.mark (chars c.args.text.now) (chars c.in-Some.front.now) (chars c.in-Some.back.now) cut.0 cut.1).back

pub returns-in-None-clause-before : goal.returns-in-None-clause-before
returns-in-None-clause-before c =
    sym (without_mark c.args.mark (chars c.args.text.now) (none_of _ c.args.text.now c.utf8.text c.in-None.ensures.cases)).front

pub returns-in-None-clause-behind : goal.returns-in-None-clause-behind
returns-in-None-clause-behind c =
    sym (without_mark c.args.mark (chars c.args.text.now) (none_of _ c.args.text.now c.utf8.text c.in-None.ensures.cases)).back
