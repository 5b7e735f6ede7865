use Rattle.std.proofs.Common.{◌≡◌, IsNone, arith, refl, subst, sym, ◌∙◌}
use Rattle.std.specs.List.{AllByRecursion}
use Rattle.std.proofs.lemmas.List.{get_or_default}
use Rattle.rdf_meaning.specs.declared.row.Row as held
use Rattle.rdf_meaning.specs.Denotation.{of_triple, site_of}
use Rattle.rdf_meaning.specs.Rows.{row_seen}
use Rattle.rdf_statements.specs.Forms.{IsGivenAt}
use Rattle.rdf_statements.proofs.Finding.{no_axiom, none_behind}
use Rattle.rdf_statements.proofs.Forming.{form_is, row_among}
use Rattle.rdf_statements.proofs.forms.form_at_site.Goals as goal
use Rattle.rdf_statements.proofs.forms.form_at_site.Goals.{then-is_same_site+in_ok-kids+in_default, else-is_same_site}

pub returns-in-Some-clause-form : goal.returns-in-Some-clause-form
returns-in-Some-clause-form c =
    let rows = c.axiom_rows-row-items in
    form_is c.args.source.now.graph.now c.args.source.now.kinds.now c.args.source.now.roles.now (of_triple c.args.triple.now) _ _
    (row_among rows.result.now c.loop-row.row-index _ rows.ensures c.loop-row-test.true)
    (c.is_same_site.ensures.0 c.if-is_same_site.true ∙ c.site_of-site.ensures) refl c.in_ok-kids.field-0 c.in-Some.is
    (c.in_ok-kids.ensures.kids (of_triple c.args.triple.now) c.requires.places)

pub loop-row-preserved : goal.loop-row-preserved
loop-row-preserved c = λ formed.
    let g = c.args.source.now.graph.now in
    let k = c.args.source.now.kinds.now in
    let b = of_triple c.args.triple.now in
    let rows = c.axiom_rows-row-items.result.now in
    none_behind g k b rows c.loop-row.row-index (c.loop-row.invariant formed)
    (λ d fits given.
    elim c.if-is_same_site.branch [
      | then-is_same_site+in_ok-kids+in_default w ↦
          w.in_ok-kids.ensures.none b c.requires.places formed (subst IsNone (sym w.in_default.is) refl)
          (subst (λ (r : held.Row). AllByRecursion (IsGivenAt g k b) (row_seen r).parts) (get_or_default rows c.loop-row.row-index d _ c.loop-row-test.true) given)
      | else-is_same_site w ↦
          let is =
          c.is_same_site.ensures.1
          (subst (λ (r : held.Row). r.site ≡ site_of c.args.triple.now) (get_or_default rows c.loop-row.row-index d _ c.loop-row-test.true) fits ∙ sym c.site_of-site.ensures) in
          let isnt = w.if-is_same_site.false in
          cc
    ])

pub returns-clause-none : goal.returns-clause-none
returns-clause-none c = λ formed _.
    let rows = c.axiom_rows-row-items in
    no_axiom c.args.source.now.graph.now c.args.source.now.kinds.now (of_triple c.args.triple.now) rows.result.now c.loop-row.row-index rows.ensures (omega (arith, c.loop-row-test.false))
    (c.loop-row.invariant formed)
