-- No triples are a graph.
use Rattle.std.proofs.Common.{◌≡◌, List, [], sym, subst, arith}
use Rattle.std.specs.List.Sorted.{IsStrictlySortedBy}
use Rattle.rdf_graph.specs.declared.triple.Triple.{Triple}
use Rattle.rdf_graph.specs.Graphs.{IsGraph}
use Rattle.rdf_graph.specs.Terms.{triple_cmp}

none_ascend : IsStrictlySortedBy triple_cmp []
unfolding IsStrictlySortedBy
none_ascend = tt

nothing : IsGraph []
nothing = record { ascending = none_ascend; few = omega arith; subjects = tt }

pub nothing_is_a_graph : (triples : List Triple) → triples ≡ [] → IsGraph triples
nothing_is_a_graph triples e = subst IsGraph (sym e) nothing
