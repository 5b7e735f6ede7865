use Rattle.std.proofs.Common.{rules}
use Rattle.std.specs.Ordering.{is_le}
use Rattle.std.proofs.lemmas.List.Sorted.{IsPartitionPoint-from_clause}
use Rattle.rdf_graph.specs.Terms.{term_cmp}
use Rattle.rdf_graph.proofs.Subjects.{subjects_up_to}
use Rattle.rdf_graph.proofs.graph.count_up_to.Goals as goal

pub returns : goal.returns
returns c = record {
  bound = c.partition_point.ensures.bound;
  parted =
      IsPartitionPoint-from_clause (λ t. is_le (term_cmp t.subject c.args.term.now)) c.args.triples.now c.partition_point.result c.partition_point.ensures.partitioned
      (subjects_up_to c.args.triples.now c.args.term.now c.requires) (λ a r q k. search rules);
}
