use Rattle.std.proofs.Common.{rules}
use Rattle.std.specs.Prelude.{Some}
use Rattle.std.specs.Cmp.Lexicographic.{options_total}
use Rattle.std.specs.Option.{option_cmp}
use Rattle.std.proofs.lemmas.List.Sorted.{IsPartitionPoint-from_clause}
use Rattle.rdf_graph.specs.ByObject.{is_before}
use Rattle.rdf_graph.specs.Graphs.{object_at}
use Rattle.rdf_graph.specs.Terms.{term_cmp}
use Rattle.rdf_graph.proofs.TermLaws.{terms_total}
use Rattle.rdf_graph.proofs.Places.{parted}
use Rattle.rdf_graph.proofs.by_object.count_before.Goals as goal

pub returns : goal.returns
returns c = record {
  bound = c.partition_point.ensures.bound;
  parted =
      IsPartitionPoint-from_clause (is_before c.args.triples.now c.args.object.now c.args.from) c.args.places.now c.partition_point.result c.partition_point.ensures.partitioned
      (parted (object_at c.args.triples.now) (option_cmp term_cmp) (options_total terms_total) c.args.places.now c.requires (Some c.args.object.now) c.args.from) (λ a r q k. search rules);
}
