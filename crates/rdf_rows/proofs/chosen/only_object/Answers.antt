use Rattle.std.proofs.Common.{map, sym, ap, ◌∙◌}
use Rattle.rdf_meaning.specs.Nodes.{carries}
use Rattle.rdf_rows.specs.Chosen.{carriers, the_only}
use Rattle.rdf_rows.proofs.Only.{none_found, not_only_of, only_found}
use Rattle.rdf_rows.proofs.chosen.only_object.Goals as goal
use Rattle.rdf_rows.proofs.chosen.only_object.Goals.{in_default-via-in-Some+else-count-eq1, in_default-via-in_default}

pub returns-in-Some : goal.returns-in-Some
returns-in-Some c =
    let only = only_found (carries c.args.word) c.args.triples.now c.in-Some.triple.now (sym c.in-Some.ensures) (sym c.count.ensures ∙ c.if-count-eq1.true) in
    ap (λ ts. the_only (map (λ t. t.object) ts)) (sym only)

pub returns-in_default : goal.returns-in_default
returns-in_default c =
    elim c.in_default.branch [
      | in_default-via-in-Some+else-count-eq1 w ↦
          sym (not_only_of (λ t. t.object) (carriers c.args.word c.args.triples.now) (λ e. w.if-count-eq1.false (w.count.ensures ∙ e)))
      | in_default-via-in_default w ↦ ap (λ ts. the_only (map (λ t. t.object) ts)) (sym (none_found (carries c.args.word) c.args.triples.now (sym w.in_default.ensures)))
    ]
