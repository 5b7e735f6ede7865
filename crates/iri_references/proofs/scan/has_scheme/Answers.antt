use Rattle.std.proofs.Common.{◌∙◌, sym, ap, lit<}
use Rattle.std.specs.Prelude.{◌&&◌}
use Rattle.std.specs.Str.{chars}
use Rattle.iri_references.specs.References.{before, colon, is_scheme}
use Rattle.iri_references.proofs.Characters.{first_cut, none_of}
use Rattle.iri_references.proofs.Marks.{at_mark, without_mark}
use Rattle.iri_references.proofs.scan.has_scheme.Goals as goal

pub returns-in-Some : goal.returns-in-Some
returns-in-Some c =
    let cs = chars c.args.text.now in
    let parts = first_cut colon c.args.text.now c.in-Some.scheme c.in-Some.field-0-1 c.utf8.text c.in-Some.ensures.cases (lit< tt) in
    let cut = at_mark colon cs (chars c.in-Some.scheme.now) (chars c.in-Some.field-0-1.now) parts.0 parts.1 in
    c.is_scheme.ensures ∙ sym (ap is_scheme cut.front) ∙ sym (ap (λ b. b && is_scheme (before colon cs)) cut.any)

pub returns-in-None : goal.returns-in-None
returns-in-None c =
    let cs = chars c.args.text.now in
    sym (ap (λ b. b && is_scheme (before colon cs)) (without_mark colon cs (none_of _ c.args.text.now c.utf8.text c.in-None.ensures.cases)).any)
