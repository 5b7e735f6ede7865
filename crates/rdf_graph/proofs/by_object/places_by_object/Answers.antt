use Rattle.std.proofs.lemmas.List.Sorted.{IsPermutation-trans}
use Rattle.rdf_graph.proofs.Index.{index_of}
use Rattle.rdf_graph.proofs.by_object.places_by_object.Goals as goal

pub returns : goal.returns
returns c =
    let moved = IsPermutation-trans _ _ _ c.order_by_ranks.ensures c.order.ensures.moved in
    index_of c.args.triples.now c.in_ok-places.places.items c.order.new.places.items c.in_ok-places.ensures moved c.order.ensures.sorted
