use Rattle.std.proofs.Common.{sym, ◌∙◌}
use Rattle.owl_list.specs.Ascending.{ascending}
use Rattle.owl_list.proofs.LentLaws.{moved_holds}
use Rattle.rdf_graph.proofs.GraphLaws.{same_set}
use Rattle.rdf_graph.proofs.TermLaws.{only_equal_triples_tie, same_triple_order}
use Rattle.rdf_graph.proofs.gather.order.Goals as goal

pub arrange-requires : goal.arrange-requires
arrange-requires c = λ a b e. only_equal_triples_tie a b (sym (same_triple_order a b) ∙ e)

pub returns : goal.returns
returns c =
    c.arrange.ensures ∙ (λ i. ascending (λ a b. same_triple_order a b i) c.order_by_ranks.new.triples.items) ∙ same_set _ _ (moved_holds _ _ c.order_by_ranks.ensures)
