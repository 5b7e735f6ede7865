use Rattle.std.proofs.Common.{rules, ◌≡◌, ◌<◌, [], Some, length, ℕ, List, ap, sym, subst, ◌∙◌, refl, arith}
use Rattle.std.specs.Prelude.{not}
use Rattle.std.specs.List.{AllByRecursion}
use Rattle.std.proofs.lemmas.Result.{on_ok_weaker}
use Rattle.owl_arena.proofs.HeldLaws.{below_later}
use Rattle.rdf_mapping.specs.Arenas.{kids_at}
use Rattle.rdf_counts.proofs.ArenaLaws.{first_and, none_left, tag_told}
use Rattle.rdf_forward.specs.Walks.{WritesArcs, WritesForm, names}
use Rattle.rdf_mapping.specs.Drawing.{Placed, arcs_of, placed}
use Rattle.rdf_mapping.specs.Forms.{blank}
use Rattle.rdf_forward.proofs.Cells.{LeadsOn, leads_next, leads_end}
use Rattle.rdf_forward.proofs.Nodes.{drawn_below, facet_at, no_row_at, row_at}
use Rattle.rdf_forward.proofs.Taking.{only_one, only_two}
use Rattle.rdf_forward.proofs.Writing.{arcs_both, cell_written, ended, facet_written, goes_anyway, goes_if_more, joined_lists, listed_one, listed_other, below_two, made_written, node_alone, part_written, twice_written, writes_no_arcs}
use Rattle.rdf_forward.proofs.writer.Writer.+expression.Goals as goal
use Rattle.rdf_forward.proofs.writer.Writer.+expression.Goals.{write_cells-then-goes_on, write_cells-else-goes_on}

pub write_arcs-returns-in_default : goal.write_arcs-returns-in_default
write_arcs-returns-in_default t c = writes_no_arcs _ _ _ (ap arcs_of (c.in_default.ensures.none refl))

pub write_arcs-returns : goal.write_arcs-returns
write_arcs-returns t c =
    on_ok_weaker c.write_arcs.result (λ more. subst (λ (ps : List Placed). WritesArcs c.args.self.now c.write_arcs.new.self (blank (names c.args.self.now) c.args.node) (arcs_of ps)) (sym c.in-Some.ensures.some.placed) (arcs_both c.args.self.now c.write_part.new.self c.write_arcs.new.self c.args.node _ _ (placed c.in-Some.next.parts.now (kids_at c.args.arena.now.trees c.in-Some.next.kids.now)) c.in_ok-write_part.ensures more)) c.write_arcs.ensures

pub write_part-link_part-requires : goal.write_part-link_part-requires
write_part-link_part-requires t c = drawn_below _ _ _ c.requires.held c.requires.below

pub write_part-returns : goal.write_part-returns
write_part-returns t c = on_ok_weaker c.write_drawn.result (λ tree. part_written _ _ _ _ _ _ _ c.in-At.is c.in_ok-link_part.ensures tree) c.write_drawn.ensures

pub write_cell-returns : goal.write_cell-returns
write_cell-returns t c =
    on_ok_weaker c.link_rest.result (λ rest. cell_written _ _ _ _ _ _ _ _ c.in_ok-cell.ensures.number c.in_ok-cell.ensures.one c.in_ok-link_element.ensures c.in_ok-write_tree.ensures rest) c.link_rest.ensures

pub write_cells-loop-left-preserved : goal.write_cells-loop-left-preserved
write_cells-loop-left-preserved t c =
    let e = first_and c.loop-left.left.now c.id-item.result c.in-len1-up.len_at_least c.id-item.is in
    let left = subst (λ (l : List ℕ). LeadsOn c.args.arena.now.trees c.args.self.now c.loop-left.self c.args.goes_on c.args.ids.now l) e c.loop-left.invariant.0 in
    let below = (subst (AllByRecursion (λ (k : ℕ). k < c.args.above)) e c.loop-left.invariant.1).1 in (
      leads_next _ _ _ _ _ _ _ _ _ (elim c.if-goes_on.branch [
        | write_cells-then-goes_on w ↦ goes_anyway _ _ _ w.if-goes_on.true w.write_cell-is
        | write_cells-else-goes_on w ↦ goes_if_more _ _ _ w.if-goes_on.false (w.write_cell-is ∙ ap not w.is_empty.ensures)
      ]) c.in_ok-write_cell.ensures left,
      below,
    )

pub write_cells-returns : goal.write_cells-returns
write_cells-returns t c =
    let none : c.loop-left.left.now ≡ [] = none_left _ c.in_default.len_below in
    leads_end _ _ _ _ _ (subst (λ (l : List ℕ). LeadsOn c.args.arena.now.trees c.args.self.now c.loop-left.self c.args.goes_on c.args.ids.now l) none c.loop-left.invariant.0)

pub write_drawn-returns-in_ok-write_cells-in-Keys : goal.write_drawn-returns-in_ok-write_cells-in-Keys
write_drawn-returns-in_ok-write_cells-in-Keys t c =
    rw c.in-Keys.is (on_ok_weaker c.write_cells-in-Keys.result (λ second. joined_lists _ _ _ _ _ _ _ (ap not c.is_empty.ensures) c.in_ok-write_cells-in-Keys.ensures second) c.write_cells-in-Keys.ensures)

pub write_facet-returns : goal.write_facet-returns
write_facet-returns t c =
    let e = only_two c.args.kids.now c.facet-item.result c.value-item.result c.in-len2.len_below c.in-len2.len_at_least c.facet-item.is c.value-item.is in
    on_ok_weaker c.write_tree.result (λ tree. facet_written c.args.arena.now.trees _ _ _ _ c.facet-item.result c.value-item.result c.args.kids.now _ e (sym c.in-Some-Iri.ensures.atom ∙ ap Some c.in-Some-Iri.field-0-is) c.in_ok-link_facet.ensures tree) c.write_tree.ensures

pub write_list-returns-else-least-ge2 : goal.write_list-returns-else-least-ge2
write_list-returns-else-least-ge2 t c =
    let e = only_one c.args.ids.now c.id-item.result c.in-len1.len_below c.in-len1.len_at_least c.id-item.is in
    let one = listed_one c.args.arena.now.trees c.args.least c.id-item.result c.args.ids.now e (below_two _ c.if-least-ge2.false) in
    on_ok_weaker c.write_cells.result (λ leads. subst (WritesForm c.args.self.now c.write_cells.new.self) (sym one) (ended _ _ _ leads)) c.write_cells.ensures

pub write_list-returns-in-empty : goal.write_list-returns-in-empty
write_list-returns-in-empty t c =
    let not_one : length c.args.ids.now ≡ 1 → ⊥ = search rules in
    on_ok_weaker c.write_cells-in-empty.result (λ leads. subst (WritesForm c.args.self.now c.write_cells-in-empty.new.self) (sym (listed_other c.args.arena.now.trees c.args.least c.args.ids.now not_one)) (ended _ _ _ leads)) c.write_cells-in-empty.ensures

pub write_node-returns-then-eq : goal.write_node-returns-then-eq
write_node-returns-then-eq t c =
    let f = facet_at _ _ _ _ c.requires.node c.kids-kids.ensures.kids c.tag-tag.ensures (tag_told _ _ _ c.eq.ensures c.if-eq.true) in
    on_ok_weaker c.write_facet.result (λ arcs. made_written _ _ _ _ _ _ c.in_ok-node.ensures.number c.in_ok-node.ensures.one arcs f) c.write_facet.ensures

pub write_node-row_for-requires : goal.write_node-row_for-requires
write_node-row_for-requires t c = below_later c.kids-kids.result.now c.args.id _ (omega (arith, c.requires.held)) c.kids-kids.ensures.below

pub write_node-returns-in-Some : goal.write_node-returns-in-Some
write_node-returns-in-Some t c =
    let f = row_at _ _ _ _ c.in-Some.row _ c.requires.node c.kids-kids.ensures.kids c.tag-tag.ensures (tag_told _ _ _ c.eq.ensures c.if-eq.false) c.node_rows.ensures c.in-Some.ensures in
    on_ok_weaker c.write_arcs.result (λ arcs. made_written _ _ _ _ _ _ c.in_ok-node.ensures.number c.in_ok-node.ensures.one arcs f) c.write_arcs.ensures

pub write_node-returns-in-None : goal.write_node-returns-in-None
write_node-returns-in-None t c =
    let f = no_row_at _ _ _ _ _ _ c.requires.node c.kids-kids.ensures.kids c.tag-tag.ensures (tag_told _ _ _ c.eq.ensures c.if-eq.false) c.node_rows.ensures c.in-None.is c.row_for.ensures in
    node_alone _ _ _ f c.in_ok-node.ensures.one

pub write_twice-returns : goal.write_twice-returns
write_twice-returns t c =
    on_ok_weaker c.link_again.result (λ again. twice_written _ _ _ _ _ _ _ _ c.in_ok-cell.ensures.number refl c.in_ok-cell.ensures.one c.in_ok-link_element.ensures c.in_ok-write_tree.ensures again) c.link_again.ensures
