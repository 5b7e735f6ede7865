use Rattle.std.proofs.Common.{rules}
use Rattle.std.specs.Ordering.{is_lt}
use Rattle.std.proofs.lemmas.List.Sorted.{IsPartitionPoint-from_clause}
use Rattle.rdf_graph.specs.Terms.{term_cmp}
use Rattle.rdf_graph.proofs.Subjects.{subjects_below}
use Rattle.rdf_graph.proofs.graph.count_below.Goals as goal

pub returns : goal.returns
returns c = record {
  bound = c.partition_point.ensures.bound;
  parted =
      IsPartitionPoint-from_clause (λ t. is_lt (term_cmp t.subject c.args.term.now)) c.args.triples.now c.partition_point.result c.partition_point.ensures.partitioned
      (subjects_below c.args.triples.now c.args.term.now c.requires) (λ a r q k. search rules);
}
