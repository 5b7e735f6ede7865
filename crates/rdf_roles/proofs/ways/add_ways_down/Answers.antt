use Rattle.std.proofs.Common.{arith, ap, sym, subst, ◌∙◌}
use Rattle.std.proofs.lemmas.List.{map_push}
use Rattle.directed_graphs.specs.Cycles.{edges_of}
use Rattle.rdf_roles.proofs.NodeLaws.{table_length}
use Rattle.rdf_roles.specs.Ways.{HaveWaysDown}
use Rattle.rdf_roles.proofs.Down.{ways_end, ways_go_on}
use Rattle.rdf_roles.proofs.ways.add_ways_down.Goals as goal

pub loop-number-preserved : goal.loop-number-preserved
loop-number-preserved c =
    subst (HaveWaysDown c.args.graph.now _) (sym (ap edges_of c.in_ok-add_last.ensures ∙ map_push (λ nodes. nodes.items) c.loop-number.ways.items c.in_ok-nexts.nexts))
    (ways_go_on c.args.graph.now c.loop-number.number _ c.in_ok-nexts.nexts.items c.loop-number.invariant c.in_ok-nexts.ensures)

pub returns : goal.returns
returns c =
    ways_end c.args.graph.now c.loop-number.number _
    (omega (arith, table_length c.args.graph.now c.args.table.now.entries c.requires.table, c.len-number-end.ensures.len, c.loop-number.auto.number-end, c.loop-number-test.false))
    c.loop-number.invariant
