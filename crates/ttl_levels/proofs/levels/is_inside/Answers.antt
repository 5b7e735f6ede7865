use Rattle.std.proofs.Common.{◌∙◌, sym}
use Rattle.std.proofs.lemmas.Slice.Eq.{bytes_eq-Decides}
use Rattle.ttl_levels.specs.Nested.{rest_iri}
use Rattle.ttl_levels.proofs.LevelLaws.{count_told, inside_or_not, round_is, round_not}
use Rattle.ttl_levels.proofs.levels.is_inside.Goals as goal

pub returns-then-value_of-eq0 : goal.returns-then-value_of-eq0
returns-then-value_of-eq0 c = λ g is are.
    let counts = count_told g c.args.cells.now c.args.triple.now.subject c.value_of.result are (c.value_of.ensures g is) in
    (λ e. cc, λ i. absurd (round_not g c.args.triple.now.subject c.value_of.result counts c.if-value_of-eq0.true i.cell))

pub returns : goal.returns
returns c = λ g is are.
    let t = c.args.triple.now in
    let counts = count_told g c.args.cells.now t.subject c.value_of.result are (c.value_of.ensures g is) in
    let rest = (bytes_eq-Decides t.predicate rest_iri).0 (sym c.is_rest.ensures ∙ c.if-not-is_rest.false) in
    inside_or_not g t c.value_of-2.result rest (round_is g t.subject c.value_of.result counts c.if-value_of-eq0.false) (count_told g c.args.cells.now t.object c.value_of-2.result are (c.value_of-2.ensures g is))
