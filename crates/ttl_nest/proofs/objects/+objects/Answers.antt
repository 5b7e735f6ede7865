use Rattle.std.proofs.Common.{◌≡◌, ◌∙◌, ◌++◌, ◌-◌, Err, ℕ, ap, arith, codes, subst, sym, refl}
use Rattle.std.specs.List.{AllByRecursion}
use Rattle.std.proofs.lemmas.Result.{on_ok_weaker}
use Rattle.owl_writing.proofs.DraftLaws.{longer_by, passed_on}
use Rattle.owl_writing.specs.Terms.{iri_text}
use Rattle.owl_writing.specs.declared.fault.WriteFault.TheVariants.{TooLong}
use Rattle.rdf_graph.specs.declared.triple.Triple.{Triple}
use Rattle.rdf_meaning.specs.Nodes.{of_subject}
use Rattle.ttl_levels.specs.Nested.{IsNested}
use Rattle.ttl_nested.specs.NestedText.{form_text, separator}
use Rattle.ttl_nest.specs.Sources.{IsShallow}
use Rattle.ttl_nest.proofs.FormLaws.{kids_shallow}
use Rattle.ttl_nest.proofs.WritingLaws.{AreCellsLeft, cells_end, cells_long, cells_next, element_long, next_cell, only_two, pairs_end, pairs_long, pairs_next, plain_done, plain_long, predicate_long, round_close_long, round_done, round_inner_long, round_open_long, space_long, square_close_long, square_done, square_inner_long, square_open_long}
use Rattle.ttl_nest.proofs.objects.+objects.Goals as goal

-- cells

pub add_cells-add_element-requires : goal.add_cells-add_element-requires
add_cells-add_element-requires t c =
    let g = c.args.source.now.graph.now in
    let two = only_two c.about.result.now c.first-item.result c.rest-item.result c.in-len2.len_below c.in-len2.len_at_least c.first-item.is c.rest-item.is in
    let next = next_cell g c.args.source.now.prefixes.now c.loop-left.cell.now c.loop-left.left c.args.depth c.loop-left-test.true c.loop-left.invariant.cells c.loop-left.invariant.shallow c.first-item.result c.rest-item.result (sym c.about.ensures ∙ two) in
    (omega arith, (c.requires.source, next.element_is_shallow))

pub add_cells-returns-in_err-add_element-clause-too_long : goal.add_cells-returns-in_err-add_element-clause-too_long
add_cells-returns-in_err-add_element-clause-too_long t c = λ e.
    let g = c.args.source.now.graph.now in
    let p = c.args.source.now.prefixes.now in
    let two = only_two c.about.result.now c.first-item.result c.rest-item.result c.in-len2.len_below c.in-len2.len_at_least c.first-item.is c.rest-item.is in
    let next = next_cell g p c.loop-left.cell.now c.loop-left.left c.args.depth c.loop-left-test.true c.loop-left.invariant.cells c.loop-left.invariant.shallow c.first-item.result c.rest-item.result (sym c.about.ensures ∙ two) in
    let found = passed_on c.from_residual.result c.in_err-add_element.field-0.0 TooLong c.from_residual.ensures.1 e in
    cells_long g p c.args.draft.now c.args.term.now c.loop-left.draft c.loop-left.cell.now c.first-item.result.object c.rest-item.result.object c.loop-left.left c.args.depth c.loop-left.invariant next
    (c.in_err-add_element.ensures.too_long (ap Err found))

pub add_cells-loop-left-preserved : goal.add_cells-loop-left-preserved
add_cells-loop-left-preserved t c =
    let g = c.args.source.now.graph.now in
    let p = c.args.source.now.prefixes.now in
    let two = only_two c.about.result.now c.first-item.result c.rest-item.result c.in-len2.len_below c.in-len2.len_at_least c.first-item.is c.rest-item.is in
    let next = next_cell g p c.loop-left.cell.now c.loop-left.left c.args.depth c.loop-left-test.true c.loop-left.invariant.cells c.loop-left.invariant.shallow c.first-item.result c.rest-item.result (sym c.about.ensures ∙ two) in
    let left : next.behind ≡ c.loop-left.left - 1 = omega (arith, next.left_is) in
    subst (λ (n : ℕ). AreCellsLeft g p c.args.draft.now c.args.term.now c.add_element.new.draft c.rest-item.result.object n c.args.depth) left
    (cells_next g p c.args.draft.now c.args.term.now c.loop-left.draft c.loop-left.cell.now c.first-item.result.object c.rest-item.result.object c.loop-left.left c.args.depth c.loop-left.invariant next c.add_element.new.draft
    c.in_ok-add_element.ensures.ok)

pub add_cells-returns-clause-ok : goal.add_cells-returns-clause-ok
add_cells-returns-clause-ok t c =
    cells_end c.args.source.now.graph.now c.args.source.now.prefixes.now c.args.draft.now c.args.term.now c.loop-left.draft c.loop-left.cell.now c.loop-left.left c.args.depth c.loop-left-test.false c.loop-left.invariant

-- an element

pub add_element-returns-in_err-add_object-clause-too_long : goal.add_element-returns-in_err-add_object-clause-too_long
add_element-returns-in_err-add_object-clause-too_long t c = λ e form f.
    let found = passed_on c.from_residual.result c.in_err-add_object.field-0.0 TooLong c.from_residual.ensures.1 e in
    longer_by c.args.draft.now (form_text c.args.source.now.prefixes.now form) (codes " ") (c.in_err-add_object.ensures.too_long (ap Err found) form f)

-- an object

pub add_object-returns-then-not-is_nested-clause-ok : goal.add_object-returns-then-not-is_nested-clause-ok
add_object-returns-then-not-is_nested-clause-ok t c =
    let g = c.args.source.now.graph.now in
    let not = λ (n : IsNested g c.args.term.now). let so = (c.is_nested.ensures g c.requires.source.table c.requires.source.nests).1 n in let no_is = c.if-not-is_nested.true in absurd (cc) in
    on_ok_weaker c.add_term.result (λ is. plain_done g c.args.source.now.prefixes.now c.args.term.now c.args.draft.now not c.add_term.new.draft is) c.add_term.ensures.ok

pub add_object-returns-then-not-is_nested-clause-too_long : goal.add_object-returns-then-not-is_nested-clause-too_long
add_object-returns-then-not-is_nested-clause-too_long t c = λ e.
    let g = c.args.source.now.graph.now in
    let not = λ (n : IsNested g c.args.term.now). let so = (c.is_nested.ensures g c.requires.source.table c.requires.source.nests).1 n in let no_is = c.if-not-is_nested.true in absurd (cc) in
    plain_long g c.args.source.now.prefixes.now c.args.term.now c.args.draft.now not (c.add_term.ensures.too_long e)

-- pairs

pub add_pair-returns-in_err-add_iri-clause-too_long : goal.add_pair-returns-in_err-add_iri-clause-too_long
add_pair-returns-in_err-add_iri-clause-too_long t c = λ e object more f are.
    let p = c.args.source.now.prefixes.now in
    let found = passed_on c.from_residual.result c.in_err-add_iri.field-0.0 TooLong c.from_residual.ensures.1 e in
    predicate_long c.args.draft.now (iri_text p c.args.triple.now.predicate) (form_text p object ++ codes " ") (separator more) (c.in_err-add_iri.ensures.too_long (ap Err found))

pub add_pair-returns-in_err-add_ascii-clause-too_long : goal.add_pair-returns-in_err-add_ascii-clause-too_long
add_pair-returns-in_err-add_ascii-clause-too_long t c = λ e object more f are.
    let p = c.args.source.now.prefixes.now in
    let found = passed_on c.from_residual-in_err-add_ascii.result c.in_err-add_ascii.field-0.0 TooLong c.from_residual-in_err-add_ascii.ensures.1 e in
    space_long c.args.draft.now (iri_text p c.args.triple.now.predicate) (form_text p object ++ codes " ") (separator more) c.add_iri.new.self c.in_ok-add_iri.ensures.ok (c.in_err-add_ascii.ensures.too_long (ap Err found))

pub add_pair-returns-in_err-add_element-clause-too_long : goal.add_pair-returns-in_err-add_element-clause-too_long
add_pair-returns-in_err-add_element-clause-too_long t c = λ e object more f are.
    let p = c.args.source.now.prefixes.now in
    let found = passed_on c.from_residual-in_err-add_element.result c.in_err-add_element.field-0.0 TooLong c.from_residual-in_err-add_element.ensures.1 e in
    element_long c.args.draft.now (iri_text p c.args.triple.now.predicate) (form_text p object ++ codes " ") (separator more) c.add_iri.new.self c.in_ok-add_iri.ensures.ok c.add_ascii.new.self c.in_ok-add_ascii.ensures.ok
    (c.in_err-add_element.ensures.too_long (ap Err found) object f)

pub add_pairs-returns-in_err-add_pair-clause-too_long : goal.add_pairs-returns-in_err-add_pair-clause-too_long
add_pairs-returns-in_err-add_pair-clause-too_long t c = λ e.
    let found = passed_on c.from_residual.result c.in_err-add_pair.field-0.0 TooLong c.from_residual.ensures.1 e in
    pairs_long c.args.source.now.graph.now c.args.source.now.prefixes.now c.args.draft.now c.args.triples.now c.loop-triple.draft c.loop-triple.rest.now c.args.depth c.loop-triple.invariant c.in-Some.triple.now c.in-Some.behind.now c.in-Some.ensures.cases.0
    (c.in_err-add_pair.ensures.too_long (ap Err found))

pub add_pairs-loop-triple-preserved : goal.add_pairs-loop-triple-preserved
add_pairs-loop-triple-preserved t c =
    pairs_next c.args.source.now.graph.now c.args.source.now.prefixes.now c.args.draft.now c.args.triples.now c.loop-triple.draft c.loop-triple.rest.now c.args.depth c.loop-triple.invariant c.in-Some.triple.now c.in-Some.behind.now c.in-Some.ensures.cases.0
    c.add_pair.new.draft c.in_ok-add_pair.ensures.ok

pub add_pairs-returns-clause-ok : goal.add_pairs-returns-clause-ok
add_pairs-returns-clause-ok t c =
    pairs_end c.args.source.now.graph.now c.args.source.now.prefixes.now c.args.draft.now c.args.triples.now c.loop-triple.draft c.loop-triple.rest.now c.args.depth c.in_default.ensures.cases c.loop-triple.invariant

-- a collection

pub add_round-returns-in_err-add_ascii-clause-too_long : goal.add_round-returns-in_err-add_ascii-clause-too_long
add_round-returns-in_err-add_ascii-clause-too_long t c = λ e.
    let found = passed_on c.from_residual.result c.in_err-add_ascii.field-0.0 TooLong c.from_residual.ensures.1 e in
    round_open_long c.args.source.now.graph.now c.args.source.now.prefixes.now c.args.term.now c.args.draft.now c.requires.nested c.requires.some (c.in_err-add_ascii.ensures.too_long (ap Err found))

pub add_round-returns-in_err-add_cells-clause-too_long : goal.add_round-returns-in_err-add_cells-clause-too_long
add_round-returns-in_err-add_cells-clause-too_long t c = λ e.
    let found = passed_on c.from_residual-in_err-add_cells.result c.in_err-add_cells.field-0.0 TooLong c.from_residual-in_err-add_cells.ensures.1 e in
    round_inner_long c.args.source.now.graph.now c.args.source.now.prefixes.now c.args.term.now c.args.draft.now c.requires.nested c.requires.some c.add_ascii.new.self c.in_ok-add_ascii.ensures.ok (c.in_err-add_cells.ensures.too_long (ap Err found))

pub add_round-returns-clause-ok : goal.add_round-returns-clause-ok
add_round-returns-clause-ok t c =
    on_ok_weaker c.add_ascii-2.result
    (λ is. round_done c.args.source.now.graph.now c.args.source.now.prefixes.now c.args.term.now c.args.draft.now c.requires.nested c.requires.some c.add_ascii.new.self c.in_ok-add_ascii.ensures.ok c.add_cells.new.draft c.in_ok-add_cells.ensures.ok
    c.add_ascii-2.new.self is) c.add_ascii-2.ensures.ok

pub add_round-returns-clause-too_long : goal.add_round-returns-clause-too_long
add_round-returns-clause-too_long t c = λ e.
    round_close_long c.args.source.now.graph.now c.args.source.now.prefixes.now c.args.term.now c.args.draft.now c.requires.nested c.requires.some c.add_ascii.new.self c.in_ok-add_ascii.ensures.ok c.add_cells.new.draft c.in_ok-add_cells.ensures.ok
    (c.add_ascii-2.ensures.too_long e)

-- brackets

pub add_square-returns-in_err-add_ascii-clause-too_long : goal.add_square-returns-in_err-add_ascii-clause-too_long
add_square-returns-in_err-add_ascii-clause-too_long t c = λ e.
    let g = c.args.source.now.graph.now in
    let found = passed_on c.from_residual.result c.in_err-add_ascii.field-0.0 TooLong c.from_residual.ensures.1 e in
    square_open_long g c.args.source.now.prefixes.now c.args.term.now c.args.draft.now c.requires.nested c.requires.not_round (of_subject g c.args.term.now) refl (c.in_err-add_ascii.ensures.too_long (ap Err found))

pub add_square-add_pairs-requires : goal.add_square-add_pairs-requires
add_square-add_pairs-requires t c =
    let g = c.args.source.now.graph.now in (
      omega arith,
      (c.requires.source, subst (AllByRecursion (λ (u : Triple). IsShallow g u.object c.args.depth)) (sym c.about.ensures) (kids_shallow g c.args.term.now c.args.depth c.requires.nested c.requires.not_round c.requires.shallow)),
    )

pub add_square-returns-in_err-add_pairs-clause-too_long : goal.add_square-returns-in_err-add_pairs-clause-too_long
add_square-returns-in_err-add_pairs-clause-too_long t c = λ e.
    let found = passed_on c.from_residual-in_err-add_pairs.result c.in_err-add_pairs.field-0.0 TooLong c.from_residual-in_err-add_pairs.ensures.1 e in
    square_inner_long c.args.source.now.graph.now c.args.source.now.prefixes.now c.args.term.now c.args.draft.now c.requires.nested c.requires.not_round c.about.result.now c.about.ensures c.add_ascii.new.self c.in_ok-add_ascii.ensures.ok
    (c.in_err-add_pairs.ensures.too_long (ap Err found))

pub add_square-returns-clause-ok : goal.add_square-returns-clause-ok
add_square-returns-clause-ok t c =
    on_ok_weaker c.add_ascii-2.result
    (λ is. square_done c.args.source.now.graph.now c.args.source.now.prefixes.now c.args.term.now c.args.draft.now c.requires.nested c.requires.not_round c.about.result.now c.about.ensures c.add_ascii.new.self c.in_ok-add_ascii.ensures.ok
    c.add_pairs.new.draft c.in_ok-add_pairs.ensures.ok c.add_ascii-2.new.self is) c.add_ascii-2.ensures.ok

pub add_square-returns-clause-too_long : goal.add_square-returns-clause-too_long
add_square-returns-clause-too_long t c = λ e.
    square_close_long c.args.source.now.graph.now c.args.source.now.prefixes.now c.args.term.now c.args.draft.now c.requires.nested c.requires.not_round c.about.result.now c.about.ensures c.add_ascii.new.self c.in_ok-add_ascii.ensures.ok
    c.add_pairs.new.draft c.in_ok-add_pairs.ensures.ok (c.add_ascii-2.ensures.too_long e)
