use Rattle.std.proofs.Common.{ℕ, List, ◌++◌, ◌∙◌, ap, map, subst, sym}
use Rattle.blank_labels.specs.FreshLabels.{fresh_name}
use Rattle.blank_labels.specs.LabelNumbers.{names_beside}
use Rattle.owl_list.specs.Ascending.{HoldSame}
use Rattle.rdf_graph.specs.Graphs.{set_of}
use Rattle.rdf_graph.proofs.GraphLaws.{same_set}
use Rattle.ttl_grammar.specs.Labels.{graph_of, labels_of, named_triple}
use Rattle.ttl_read.proofs.labels.gathered.Goals as goal

pub returns : goal.returns
unfolding graph_of
returns c =
    let all = map (named_triple (names_beside c.in_ok-labels.labels)) c.args.triples.keys in
    let same : HoldSame c.gather_all.new.gather (c.new-gather.result ++ all) = subst (λ g. HoldSame g (c.new-gather.result ++ all)) (sym c.in_ok-gather_all.ensures) c.in_ok-others.ensures in
    same_set _ _ same
    ∙ ap (λ g. set_of (g ++ all)) c.new-gather.ensures
    ∙ ap (λ (name : ℕ → List ℕ). set_of (map (named_triple name) c.args.triples.keys)) (c.in_ok-labels.ensures ∙ ap (λ ts. fresh_name (labels_of ts)) c.as_slice.ensures.keys)
