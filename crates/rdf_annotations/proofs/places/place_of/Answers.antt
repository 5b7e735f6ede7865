use Rattle.std.proofs.Common.{rules, subst, sym}
use Rattle.std.proofs.lemmas.Fn.{always_returns_same}
use Rattle.owl_list.specs.Ascending.{IsAscending}
use Rattle.rdf_graph.specs.declared.triple.Triple.{Triple}
use Rattle.rdf_graph.specs.Terms.{triple_cmp}
use Rattle.rdf_graph.proofs.TermLaws.{only_equal_triples_tie, triples_total}
use Rattle.rdf_annotations.specs.Noters.{IsPlaceOf}
use Rattle.rdf_annotations.proofs.Placing.{found}
use Rattle.rdf_annotations.proofs.places.place_of.Goals as goal

pub returns : goal.returns
returns c =
    let wanted : Triple = record { subject = c.args.subject.now; predicate = c.args.predicate.now; object = c.args.object.now } in
    let triples = c.triples.result.now in
    let facts = c.binary_search_by.ensures in
    subst (λ ts. IsPlaceOf ts wanted c.ok.result) c.triples.ensures.triples
    (subst (IsPlaceOf triples wanted) (sym c.ok.ensures.value)
    (found triple_cmp triples_total only_equal_triples_tie triples wanted c.binary_search_by.result
    (subst (λ ts. IsAscending triple_cmp ts) (sym c.triples.ensures.triples) c.triples.ensures.graph.ascending) facts.bound
    (facts.position (λ t. triple_cmp t wanted) (always_returns_same _ _ _ (λ a r f called. search rules)))))
