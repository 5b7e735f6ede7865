use Rattle.std.proofs.Common.{◌∙◌, ◌<◌, length, refl, sym, subst, arith}
use Rattle.std.proofs.lemmas.Bool.{both_ways}
use Rattle.std.proofs.lemmas.Option.{slice_get_within}
use Rattle.directed_graphs.specs.Cycles.{edges_of}
use Rattle.directed_graphs.proofs.CycleLaws.{graph_size}
use Rattle.rdf_meaning.specs.declared.word.Word.TheVariants as word
use Rattle.rdf_rows.specs.Chosen.{objects_with}
use Rattle.rdf_roles.specs.Tables.{blank_nodes}
use Rattle.rdf_roles.proofs.NotedUnder.{AreUndersLeft, same_size, under_found, under_no_node, under_not_noted, unders_last}
use Rattle.rdf_roles.proofs.notes.add_unders.Goals as goal

pub add_way-requires : goal.add_way-requires
add_way-requires c =
    let node = c.in-Some-number_of.ensures c.args.graph.now c.requires.table in
    let within : c.in-Some-number_of.under < length (blank_nodes c.args.graph.now) = slice_get_within (blank_nodes c.args.graph.now) c.in-Some-number_of.under node.label node.at in
    omega (arith, within, c.requires.each, c.loop-source.invariant.0)

pub loop-source-preserved-in_ok-add_way : goal.loop-source-preserved-in_ok-add_way
loop-source-preserved-in_ok-add_way c =
    let node = c.in-Some-number_of.ensures c.args.graph.now c.requires.table in (
      same_size c.add_way.new.ways.items c.loop-source.ways.items c.in-Some-number_of.under c.args.number c.in_ok-add_way.ensures ∙ c.loop-source.invariant.0,
      λ s about is_note.
          let noted = (c.is_noted_under.ensures s about is_note).0 c.if-is_noted_under.true in
          let here : c.in-Some-number_of.under < length (blank_nodes c.args.graph.now) = slice_get_within (blank_nodes c.args.graph.now) c.in-Some-number_of.under node.label node.at in
          let within : c.in-Some-number_of.under < length (edges_of c.loop-source.ways.items) = omega (arith, here, c.requires.each, c.loop-source.invariant.0, graph_size c.loop-source.ways.items) in
          subst (λ ways. AreUndersLeft c.args.graph.now s c.args.number (edges_of c.args.ways.now.items) ways (objects_with word.AnnotatedSource c.in-Some.behind.now) (objects_with word.AnnotatedSource c.args.note.now)) (sym c.in_ok-add_way.ensures)
          (under_found (c.loop-source.invariant.1 s about is_note) c.in-Some.ensures.some c.in-Some-number_of.under node noted within),
    )

pub loop-source-preserved-in_default-number_of : goal.loop-source-preserved-in_default-number_of
loop-source-preserved-in_default-number_of c = (
  c.loop-source.invariant.0,
  λ s about is_note.
      under_no_node (c.loop-source.invariant.1 s about is_note) c.in-Some.ensures.some (c.in_default-number_of.ensures c.args.graph.now c.requires.table),
)

pub loop-source-preserved : goal.loop-source-preserved
loop-source-preserved c = (
  c.loop-source.invariant.0,
  λ s about is_note.
      under_not_noted (c.loop-source.invariant.1 s about is_note) c.in-Some.ensures.some
      (λ n. both_ways c.is_noted_under.result c.if-is_noted_under.false ((c.is_noted_under.ensures s about is_note).1 n)),
)

pub returns : goal.returns
returns c s about is_note = unders_last c.args.graph.now s c.args.number _ _ _ _ (c.in_default.ensures.none refl) (c.loop-source.invariant.1 s about is_note)
