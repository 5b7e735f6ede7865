use Rattle.std.proofs.Common.{◌≡◌, Some, get_or, sym, ap, ◌∙◌}
use Rattle.std.specs.Prelude.{option_map}
use Rattle.std.proofs.lemmas.Option.{same_Some, slice_get-get_or}
use Rattle.rdf_graph.specs.declared.triple.Triple.{Triple}
use Rattle.rdf_graph.specs.Graphs.{object_at}
use Rattle.rdf_graph.proofs.TermLaws.{same_term}
use Rattle.rdf_graph.proofs.by_object.has_object.Goals as goal

pub returns : goal.returns
returns c =
    let triples = c.args.triples.now in
    let triple = get_or triples c.args.place c.index-triples-place.result in
    let stands : object_at triples c.args.place ≡ Some triple.object = ap (option_map (λ (t : Triple). t.object)) (slice_get-get_or triples c.args.place _ c.requires) in
    let same = same_term triple.object c.args.object.now in
    (λ h. stands ∙ ap Some (same.0 (sym c.eq.ensures ∙ h)), λ e. c.eq.ensures ∙ same.1 (same_Some _ _ (sym stands ∙ e)))
