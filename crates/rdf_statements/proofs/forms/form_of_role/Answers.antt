use Rattle.std.proofs.Common.{IsNone, arith, get_or, refl, subst, sym}
use Rattle.std.specs.List.{AllByRecursion}
use Rattle.std.proofs.lemmas.List.{get_or_default}
use Rattle.rdf_meaning.specs.declared.row.Row as held
use Rattle.rdf_meaning.specs.Denotation.{of_node}
use Rattle.rdf_meaning.specs.Rows.{row_seen}
use Rattle.rdf_rows.specs.Fits.{FitsRow}
use Rattle.rdf_statements.specs.Forms.{IsGivenAt}
use Rattle.rdf_statements.proofs.Finding.{no_axiom, none_behind}
use Rattle.rdf_statements.proofs.Forming.{fits_row, node_form_is, row_among}
use Rattle.rdf_statements.proofs.forms.form_of_role.Goals as goal
use Rattle.rdf_statements.proofs.forms.form_of_role.Goals.{then-fit+in_ok-kids+in_default, else-fit}

pub returns-in-Some-clause-form : goal.returns-in-Some-clause-form
returns-in-Some-clause-form c =
    let x = c.args.node.now in
    let rows = c.axiom_rows-row-items in
    let ts = c.args.places.now.triples.now in
    node_form_is c.args.source.now.graph.now c.args.source.now.kinds.now c.args.source.now.roles.now x _ _ ts c.args.role
    (row_among rows.result.now c.loop-row.row-index _ rows.ensures c.loop-row-test.true)
    c.requires.triples c.requires.role ((c.fit.ensures ts c.of-words.ensures).0 c.if-fit.true) refl c.in_ok-kids.field-0 c.in-Some.is
    (c.in_ok-kids.ensures.kids (of_node x) c.requires.places)

pub loop-row-preserved : goal.loop-row-preserved
loop-row-preserved c = λ formed.
    let g = c.args.source.now.graph.now in
    let k = c.args.source.now.kinds.now in
    let x = c.args.node.now in
    let b = of_node x in
    let rows = c.axiom_rows-row-items.result.now in
    let ts = c.args.places.now.triples.now in
    none_behind g k b rows c.loop-row.row-index (c.loop-row.invariant formed)
    (λ d fits given.
    elim c.if-fit.branch [
      | then-fit+in_ok-kids+in_default w ↦
          w.in_ok-kids.ensures.none b c.requires.places formed (subst IsNone (sym w.in_default.is) refl)
          (subst (λ (r : held.Row). AllByRecursion (IsGivenAt g k b) (row_seen r).parts) (get_or_default rows c.loop-row.row-index d _ c.loop-row-test.true) given)
      | else-fit w ↦
          let is =
          (c.fit.ensures ts c.of-words.ensures).1
          (subst (λ (r : held.Row). FitsRow c.args.role ts (row_seen r)) (get_or_default rows c.loop-row.row-index d _ c.loop-row-test.true)
          (fits_row g x (row_seen (get_or rows c.loop-row.row-index d)) ts c.args.role c.requires.triples c.requires.role fits)) in
          let isnt = w.if-fit.false in
          cc
    ])

pub returns-clause-none : goal.returns-clause-none
returns-clause-none c = λ formed _.
    let rows = c.axiom_rows-row-items in
    no_axiom c.args.source.now.graph.now c.args.source.now.kinds.now (of_node c.args.node.now) rows.result.now c.loop-row.row-index rows.ensures (omega (arith, c.loop-row-test.false))
    (c.loop-row.invariant formed)
