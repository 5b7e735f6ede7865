use Rattle.std.proofs.Common.{sym, ◌∙◌}
use Rattle.std.proofs.lemmas.Bool.{both_ways}
use Rattle.rdf_scans.proofs.Mistyped.{no_property, typed_note}
use Rattle.rdf_scans.proofs.untyped.is_typed_note.Goals as goal

pub returns-then-names_tree : goal.returns-then-names_tree
returns-then-names_tree c =
    let reading = c.args.reading.now in
    typed_note reading.graph.now reading.kinds.now c.args.triple.now c.is_of_sort.result (sym (c.names_tree.ensures reading.graph.now) ∙ c.if-names_tree.true) (c.is_of_sort.ensures reading.graph.now c.requires.table)

pub returns-else-names_tree : goal.returns-else-names_tree
returns-else-names_tree c =
    let reading = c.args.reading.now in
    let other = c.if-names_tree.false in (
      λ h. absurd (both_ways c.names_tree.result other h),
      λ n. absurd (no_property reading.graph.now reading.kinds.now c.args.triple.now c.names_tree.result (sym (c.names_tree.ensures reading.graph.now) ∙ other) n),
    )
