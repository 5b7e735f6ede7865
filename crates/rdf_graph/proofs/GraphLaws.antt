-- The laws of graphs.
use Rattle.std.specs.Prelude.{◌≡◌, ◌≤◌, List, length}
use Rattle.owl_list.specs.Ascending.{HoldSame}
use Rattle.owl_list.proofs.AscendingLaws.{all_ascending, ascending_again, ascending_ascends, ascending_holds, ascending_same, ascending_unique}
use Rattle.rdf_graph.specs.declared.triple.Triple.{Triple}
use Rattle.rdf_graph.specs.Graphs.{IsGraph, most_triples, set_of}
use Rattle.rdf_graph.specs.Terms.{HaveSubjects, IsSubject, triple_cmp}
use Rattle.rdf_graph.proofs.TermLaws.{only_equal_triples_tie, triples_total}

-- a graph is known by which triples it has
pub same_graph : (g h : List Triple) → IsGraph g → IsGraph h → HoldSame g h → g ≡ h
same_graph g h is_g is_h = ascending_unique triple_cmp triples_total g h is_g.ascending is_h.ascending

-- the set of the triples of a list has these and no others
pub set_holds : (triples : List Triple) → HoldSame (set_of triples) triples
set_holds = ascending_holds triple_cmp triples_total only_equal_triples_tie

-- in whatever order, and however often, they stand in the list
pub same_set : (xs ys : List Triple) → HoldSame xs ys → set_of xs ≡ set_of ys
same_set = ascending_same triple_cmp triples_total only_equal_triples_tie

-- a graph is the set of its triples
pub set_again : (g : List Triple) → IsGraph g → set_of g ≡ g
set_again g is_g = ascending_again triple_cmp triples_total only_equal_triples_tie g is_g.ascending

-- a set of not too many triples is a graph
pub set_is_graph : (triples : List Triple) → HaveSubjects triples → length (set_of triples) ≤ most_triples → IsGraph (set_of triples)
set_is_graph triples subjects few = record {
  ascending = ascending_ascends triple_cmp triples_total triples;
  few = few;
  subjects = all_ascending (λ triple. IsSubject triple.subject) triple_cmp triples subjects;
}
