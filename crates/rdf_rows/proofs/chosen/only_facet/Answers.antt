use Rattle.std.proofs.Common.{sym, ap, ◌∙◌}
use Rattle.rdf_rows.specs.Chosen.{facets, has_facet, the_only}
use Rattle.rdf_rows.proofs.Only.{none_found, not_only, only_found}
use Rattle.rdf_rows.proofs.chosen.only_facet.Goals as goal
use Rattle.rdf_rows.proofs.chosen.only_facet.Goals.{in_default-via-in-Some+else-count_facets-eq1, in_default-via-in_default}

pub returns-in-Some : goal.returns-in-Some
returns-in-Some c =
    let only = only_found has_facet c.args.triples.now c.in-Some.triple.now (sym c.in-Some.ensures) (sym c.count_facets.ensures ∙ c.if-count_facets-eq1.true) in
    ap the_only (sym only)

pub returns-in_default : goal.returns-in_default
returns-in_default c =
    elim c.in_default.branch [
      | in_default-via-in-Some+else-count_facets-eq1 w ↦ sym (not_only (facets c.args.triples.now) (λ e. w.if-count_facets-eq1.false (w.count_facets.ensures ∙ e)))
      | in_default-via-in_default w ↦ ap the_only (sym (none_found has_facet c.args.triples.now (sym w.in_default.ensures)))
    ]
