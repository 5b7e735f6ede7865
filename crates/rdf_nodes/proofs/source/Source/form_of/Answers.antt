use Rattle.std.proofs.Common.{IsNone, arith, get_or, refl, subst, sym}
use Rattle.std.specs.List.{AllByRecursion}
use Rattle.std.proofs.lemmas.List.{get_or_default}
use Rattle.rdf_meaning.specs.declared.row.Row as held
use Rattle.rdf_meaning.specs.Rows.{row_seen}
use Rattle.rdf_rows.specs.Fits.{FitsRow}
use Rattle.rdf_nodes.specs.Operands.{IsHeldAt}
use Rattle.rdf_nodes.proofs.Denoting.{no_tree, none_behind}
use Rattle.rdf_nodes.proofs.Steps.{fits_row, form_is, row_among}
use Rattle.rdf_nodes.proofs.source.Source.form_of.Goals as goal
use Rattle.rdf_nodes.proofs.source.Source.form_of.Goals.{then-fit+in_ok-operands+in_default, else-fit}

pub operands-requires-clause-triples : goal.operands-requires-clause-triples
operands-requires-clause-triples c = c.about-triples.ensures

pub returns-in-Some-clause-form : goal.returns-in-Some-clause-form
returns-in-Some-clause-form c =
    let g = c.args.self.now.graph.now in
    let k = c.args.self.now.kinds.now in
    let roles = c.args.self.now.roles.now in
    form_is g k roles c.args.node.now _ _ c.about-triples.result.now c.args.role
    (row_among c.node_rows-row-items.result.now c.loop-row.row-index _ c.node_rows-row-items.ensures c.loop-row-test.true)
    c.about-triples.ensures c.requires.role ((c.fit.ensures c.about-triples.result.now c.of-words.ensures).0 c.if-fit.true) refl
    c.in_ok-operands.field-0 c.in-Some.is c.in_ok-operands.ensures.operands

pub loop-row-preserved : goal.loop-row-preserved
loop-row-preserved c =
    let g = c.args.self.now.graph.now in
    let k = c.args.self.now.kinds.now in
    let roles = c.args.self.now.roles.now in
    let x = c.args.node.now in
    let rows = c.node_rows-row-items.result.now in
    let ts = c.about-triples.result.now in
    none_behind g k x rows c.loop-row.row-index c.loop-row.invariant
    (λ d fits all.
    elim c.if-fit.branch [
      | then-fit+in_ok-operands+in_default w ↦
          w.in_ok-operands.ensures.none (subst IsNone (sym w.in_default.is) refl)
          (subst (λ (r : held.Row). AllByRecursion (IsHeldAt g k x) (row_seen r).parts) (get_or_default rows c.loop-row.row-index d _ c.loop-row-test.true) all)
      | else-fit w ↦
          let is =
          (c.fit.ensures ts c.of-words.ensures).1
          (subst (λ (r : held.Row). FitsRow c.args.role ts (row_seen r)) (get_or_default rows c.loop-row.row-index d _ c.loop-row-test.true)
          (fits_row g k roles x (row_seen (get_or rows c.loop-row.row-index d)) ts c.args.role c.about-triples.ensures c.requires.role fits)) in
          let isnt = w.if-fit.false in
          cc
    ])

pub returns-clause-none : goal.returns-clause-none
returns-clause-none c = λ small t own _.
    let rows = c.node_rows-row-items in
    no_tree c.args.self.now.graph.now c.args.self.now.kinds.now c.args.node.now rows.result.now c.loop-row.row-index rows.ensures (omega (arith, c.loop-row-test.false)) small c.loop-row.invariant t own
