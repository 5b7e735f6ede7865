-- The graph of an ontology holds exactly the triples that are made, each once.
use Rattle.std.specs.Prelude.{◌↔◌, ℕ, List, Contains}
use Rattle.owl_list.specs.Ascending.{AreApart}
use Rattle.owl_list.proofs.AscendingLaws.{ascending_apart}
use Rattle.owl_tree.specs.Ontologies.{Ontology}
use Rattle.rdf_graph.specs.declared.triple.Triple.{Triple}
use Rattle.rdf_graph.proofs.GraphLaws.{set_holds}
use Rattle.rdf_graph.proofs.TermLaws.{triples_total}
use Rattle.rdf_graph.specs.Terms.{triple_cmp}
use Rattle.rdf_mapping.specs.Frames.{IsAny, Keeps}
use Rattle.blank_labels.specs.FreshLabels.{fresh_name}
use Rattle.rdf_mapping.specs.Graphs.{graph_of, labels_of, made_triples}

-- the triples of an ontology, with fresh labels
abbrev pub triples_of : Ontology → List Triple
triples_of o = made_triples (fresh_name (labels_of o)) o

pub graph_holds : (o : Ontology) (t : Triple) → Contains (graph_of o) t ↔ Contains (triples_of o) t
unfolding graph_of
graph_holds o t = set_holds (triples_of o) t

pub graph_apart : (o : Ontology) → AreApart (graph_of o)
unfolding graph_of
graph_apart o = ascending_apart triple_cmp triples_total (triples_of o)

-- of any interval, the graph keeps all that is made
pub graph_keeps : (o : Ontology) (low high : ℕ) → Keeps (fresh_name (labels_of o)) IsAny (graph_of o) (triples_of o) low high
graph_keeps o low high = record { there = λ t. (graph_holds o t).1; back = λ t l c. (graph_holds o t).0 }
