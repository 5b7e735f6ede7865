-- The graph of triples that have no labels yet is that of their set.
use Rattle.std.proofs.Common.{◌≡◌, ◌∙◌, ℕ, List, ap}
use Rattle.std.specs.Prelude.{map}
use Rattle.owl_list.specs.Ascending.{HoldSame}
use Rattle.owl_list.proofs.AscendingLaws.{same_map}
use Rattle.blank_labels.specs.FreshLabels.{fresh_name}
use Rattle.blank_labels.proofs.FreshLabelLaws.{fresh_same, same_flat}
use Rattle.rdf_graph.specs.Graphs.{set_of}
use Rattle.rdf_graph.proofs.GraphLaws.{same_set}
use Rattle.ttl_grammar.specs.Labels.{graph_of, labels_of, named_triple, triple_labels}
use Rattle.ttl_grammar.specs.declared.node.NodeTriple.{NodeTriple}

-- neither the order of triples nor repeats matter
pub graph_same : (ts us : List NodeTriple) → HoldSame ts us → graph_of ts ≡ graph_of us
unfolding graph_of
graph_same ts us h =
    let name = fresh_name (labels_of ts) in
    same_set (map (named_triple name) ts) (map (named_triple name) us) (same_map (named_triple name) ts us h)
    ∙ ap (λ (m : ℕ → List ℕ). set_of (map (named_triple m) us)) (fresh_same (labels_of ts) (labels_of us) (same_flat triple_labels ts us h))
