use Rattle.std.proofs.Common.{◌≡◌, ◌+◌, ◌-◌, sym, ap, ◌∙◌, lit<, take, arith}
use Rattle.std.specs.Str.{chars}
use Rattle.std.proofs.lemmas.Str.{chars-nil}
use Rattle.iri_references.specs.References.{slash}
use Rattle.iri_references.proofs.Characters.{none_of, rfind_cut}
use Rattle.iri_references.proofs.Paths.{through_at, through_none}
use Rattle.iri_references.proofs.cuts.through_last_slash.Goals as goal

pub returns-in-Some : goal.returns-in-Some
returns-in-Some c =
    let path = c.args.path.now in
    let found = rfind_cut slash path c.in-Some.place c.utf8.path c.in-Some.ensures.cases (lit< tt) in
    let end : c.in-Some.place + 1 - 0 ≡ c.in-Some.place + 1 = omega arith in
    ap chars c.range_inclusive.ensures.value
    ∙ ap (λ n. chars (take n path)) end
    ∙ found.through
    ∙ sym (through_at (chars path) (chars (take c.in-Some.place path)) found.behind found.parts found.last)

pub returns-in-None : goal.returns-in-None
returns-in-None c = chars-nil ∙ sym (through_none (chars c.args.path.now) (none_of _ c.args.path.now c.utf8.path c.in-None.ensures.cases))
