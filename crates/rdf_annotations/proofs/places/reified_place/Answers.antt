use Rattle.std.proofs.Common.{ap, sym, ◌∙◌}
use Rattle.std.specs.Prelude.{Some}
use Rattle.rdf_annotations.proofs.Reifying.{names_by, reified_at}
use Rattle.rdf_annotations.proofs.places.reified_place.Goals as goal

pub returns-in-Iri : goal.returns-in-Iri
returns-in-Iri c =
    reified_at c.args.graph.now c.args.note.now _ c.place_of.result
    (names_by c.args.note.now c.in_ok-source.source.now c.in_ok-target.target.now c.in-Iri.property (sym c.in_ok-source.ensures)
    (sym c.in_ok-property.ensures ∙ ap (λ y. Some y) c.in-Iri.is) (sym c.in_ok-target.ensures))
    c.place_of.ensures
