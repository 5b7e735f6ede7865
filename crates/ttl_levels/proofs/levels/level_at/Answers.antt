use Rattle.std.proofs.Common.{◌≡◌, false, sym, subst}
use Rattle.rdf_graph.specs.declared.term.Term.{Term}
use Rattle.rdf_graph.specs.declared.term.Term.TheVariants.{Blank}
use Rattle.ttl_levels.specs.Nested.{is_nestable}
use Rattle.ttl_levels.specs.Nested.HasLevel.{at_top}
use Rattle.ttl_levels.proofs.LevelLaws.{level_by, nested_by, value_above}
use Rattle.ttl_levels.proofs.NestLaws.{namer_inside}
use Rattle.ttl_levels.proofs.levels.level_at.Goals as goal

pub returns-then-not-is_nestable : goal.returns-then-not-is_nestable
returns-then-not-is_nestable c = λ label at.
    let g = c.args.graph.now in
    let is = (namer_inside g (Blank label) c.in-Some.triple.now (c.in-Some.ensures.some label at).1).1 in
    subst (λ (x : Term). is_nestable g x ≡ false) is (sym c.if-not-is_nestable.ensures)

pub returns-then-not-is_nestable-2 : goal.returns-then-not-is_nestable-2
returns-then-not-is_nestable-2 c = λ label at.
    let g = c.args.graph.now in
    let t = c.in-Some.triple.now in
    at_top (Blank label) t (nested_by g (Blank label) t (c.in-Some.ensures.some label at) (sym c.if-not-is_nestable.ensures)) (sym c.if-not-is_nestable-2.ensures)

pub returns : goal.returns
returns c = λ label at.
    let g = c.args.graph.now in
    let t = c.in-Some.triple.now in
    let by = nested_by g (Blank label) t (c.in-Some.ensures.some label at) (sym c.if-not-is_nestable.ensures) in
    let top = sym c.if-not-is_nestable-2.ensures in
    level_by g (Blank label) t c.is_inside.result c.value_of-above.result c.next_level.result by top
    (value_above g c.args.levels.now t c.args.number c.value_of-above.result c.requires.above by.inside (record { label = label; is = by.object; at = at }) top (c.value_of-above.ensures g c.requires.table))
    (c.is_inside.ensures g c.requires.table c.requires.cells) c.next_level.ensures
