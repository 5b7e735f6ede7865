use Rattle.std.proofs.Common.{◌∙◌, ap, sym, subst}
use Rattle.rdf_graph.specs.declared.term.Term.{Term}
use Rattle.rdf_graph.specs.declared.term.Term.TheVariants.{Blank}
use Rattle.ttl_levels.specs.NestTables.{IsCellCount, cell_rest}
use Rattle.ttl_levels.proofs.NestLaws.{counted_at, namer_inside, not_round_by_nestable, not_round_by_role, not_round_by_triples}
use Rattle.ttl_levels.proofs.cells.count_at.Goals as goal

pub returns-then-not-is_nestable : goal.returns-then-not-is_nestable
returns-then-not-is_nestable c = λ label at.
    let g = c.args.graph.now in
    let is = (namer_inside g (Blank label) c.in-Some.triple.now (c.in-Some.ensures.some label at).1).1 in
    subst (λ (x : Term). IsCellCount g x 0) is (not_round_by_nestable g c.in-Some.triple.now.object (sym c.if-not-is_nestable.ensures))

pub returns-then-not-is_list : goal.returns-then-not-is_list
returns-then-not-is_list c = λ label at.
    let g = c.args.graph.now in
    let is = (namer_inside g (Blank label) c.in-Some.triple.now (c.in-Some.ensures.some label at).1).1 in
    subst (λ (x : Term). IsCellCount g x 0) is
    (not_round_by_role g c.in-Some.triple.now.object (λ e. let yes_is = (c.is_list.ensures g c.requires.table).1 e in let no_is = c.if-not-is_list.true in cc))

pub returns-in_default-cell_rest : goal.returns-in_default-cell_rest
returns-in_default-cell_rest c = λ label at.
    let g = c.args.graph.now in
    let is = (namer_inside g (Blank label) c.in-Some.triple.now (c.in-Some.ensures.some label at).1).1 in
    subst (λ (x : Term). IsCellCount g x 0) is
    (not_round_by_triples g c.in-Some.triple.now.object (ap cell_rest (sym c.about.ensures) ∙ sym c.in_default-cell_rest.ensures))

pub returns : goal.returns
returns c =
    let g = c.args.graph.now in
    counted_at g c.args.cells.now c.args.number c.in-Some.triple.now c.in-Some-cell_rest.rest.now c.value_of.result c.count_before.result c.requires.below
    (λ label at. (c.in-Some.ensures.some label at).1) (sym c.if-not-is_nestable.ensures) ((c.is_list.ensures g c.requires.table).0 c.if-not-is_list.false)
    (ap cell_rest (sym c.about.ensures) ∙ sym c.in-Some-cell_rest.ensures) (c.value_of.ensures g c.requires.table) (c.count_before.ensures g)
