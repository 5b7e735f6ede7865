use Rattle.std.proofs.Common.{rules, ◌≡◌}
use Rattle.std.specs.Ordering.{is_lt}
use Rattle.std.proofs.lemmas.Fn.{always_returns_same}
use Rattle.std.proofs.lemmas.List.Sorted.{ranks_by}
use Rattle.rdf_graph.specs.ByObject.{place_cmp}
use Rattle.rdf_graph.proofs.Places.{places_total}
use Rattle.rdf_graph.proofs.by_object.order.Goals as goal

pub returns-clause-sorted : goal.returns-clause-sorted
returns-clause-sorted c =
    c.sort_unstable_by.ensures.sorted (λ a b. is_lt (place_cmp c.args.triples.now a b)) (ranks_by (places_total c.args.triples.now) (λ place. place)) (always_returns_same _ (λ a r. is_lt r ≡ is_lt (place_cmp c.args.triples.now a.0.now a.1.0.now)) _ (λ a r f k. search rules))
