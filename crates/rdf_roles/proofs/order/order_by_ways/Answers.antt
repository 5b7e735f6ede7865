use Rattle.std.proofs.Common.{◌<◌, ◌∙◌, [], get_or, length, subst, sym}
use Rattle.std.proofs.lemmas.Option.{none-some, slice_get-get_or}
use Rattle.directed_graphs.specs.Cycles.{IsAnswer, edges_of}
use Rattle.rdf_roles.specs.Tables.{AreEdges, blank_nodes}
use Rattle.rdf_roles.proofs.WayLaws.{ordered_has_no_cycle}
use Rattle.rdf_roles.proofs.CycleStops.{cycle_stops}
use Rattle.rdf_roles.proofs.order.order_by_ways.Goals as goal

pub returns-in-Of-clause-no_cycle : goal.returns-in-Of-clause-no_cycle
returns-in-Of-clause-no_cycle c =
    let g = c.args.graph.now in
    let edges = edges_of c.deref.result.now in
    let are = subst (λ items. AreEdges g (edges_of items)) (sym c.deref.ensures.value) c.in_ok-ways.ensures in
    ordered_has_no_cycle g edges are c.in-Of.order.items (subst (IsAnswer edges) c.in-Of.is c.in_ok-order.ensures)

pub unreachable-requires : goal.unreachable-requires
unreachable-requires c =
    let g = c.args.graph.now in
    let edges = edges_of c.deref.result.now in
    let are = subst (λ items. AreEdges g (edges_of items)) (sym c.deref.ensures.value) c.in_ok-ways.ensures in
    let first = subst (IsAnswer edges) c.in-Cycle.is c.in_ok-order.ensures in
    let within : c.in-Cycle.number < length (blank_nodes g) = subst (λ n. c.in-Cycle.number < n) are.each first.within in
    none-some (get_or (blank_nodes g) c.in-Cycle.number []) (sym (c.in_default.ensures g c.requires.table) ∙ slice_get-get_or (blank_nodes g) c.in-Cycle.number [] within)

pub returns-clause-fault : goal.returns-clause-fault
returns-clause-fault c =
    let g = c.args.graph.now in
    let edges = edges_of c.deref.result.now in
    let are = subst (λ items. AreEdges g (edges_of items)) (sym c.deref.ensures.value) c.in_ok-ways.ensures in
    cycle_stops g edges c.in-Cycle.number c.requires.one_role c.requires.cells are (subst (IsAnswer edges) c.in-Cycle.is c.in_ok-order.ensures)
    c.cycle_at.result (c.cycle_at.ensures g c.in-Cycle.number (c.in-Some.ensures g c.requires.table).0)
