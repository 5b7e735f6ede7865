-- The labels of blank nodes that have none in the document (RDF 1.1 Turtle, section 7.2: each stands for a blank node of its own).
use Rattle.std.specs.Prelude.{ℕ, List, [], ◌∷◌, ◌++◌, map}
use Rattle.std.specs.List.{flat_map}
use Rattle.blank_labels.specs.FreshLabels.{fresh_name}
use Rattle.rdf_graph.specs.Graphs.{set_of}
use Rattle.rdf_graph.specs.declared.term.Term.{Term}
use Rattle.rdf_graph.specs.declared.term.Term.TheVariants as term
use Rattle.rdf_graph.specs.declared.triple.Triple.{Triple}
use Rattle.ttl_grammar.specs.declared.node.Node.{Node}
use Rattle.ttl_grammar.specs.declared.node.Node.TheVariants as node
use Rattle.ttl_grammar.specs.declared.node.NodeTriple.{NodeTriple}
use Rattle.ttl_grammar.specs.declared.node.Object.{Object}
use Rattle.ttl_grammar.specs.declared.node.Object.TheVariants as object

-- the labels that stand in triples

abbrev pub node_labels : Node → List (List ℕ)
node_labels (node.Label label) = label ∷ []
node_labels _ = []

abbrev pub object_labels : Object → List (List ℕ)
object_labels (object.Node n) = node_labels n
object_labels (object.Literal literal) = []

abbrev pub triple_labels : NodeTriple → List (List ℕ)
triple_labels t = node_labels t.subject ++ object_labels t.object

abbrev pub labels_of : List NodeTriple → List (List ℕ)
labels_of ts = flat_map triple_labels ts

-- the terms of nodes, where those without labels get these by their numbers

abbrev pub named : (ℕ → List ℕ) → Node → Term
named name (node.Iri iri) = term.Iri iri
named name (node.Label label) = term.Blank label
named name (node.Unlabelled n) = term.Blank (name n)

abbrev pub named_object : (ℕ → List ℕ) → Object → Term
named_object name (object.Node n) = named name n
named_object name (object.Literal literal) = term.Literal literal

abbrev pub named_triple : (ℕ → List ℕ) → NodeTriple → Triple
named_triple name t =
    record { subject = named name t.subject; predicate = t.predicate; object = named_object name t.object }

-- The triples with all labels: the nodes without labels get theirs beside all that stand there.
abbrev pub named_triples : List NodeTriple → List Triple
named_triples ts = map (named_triple (fresh_name (labels_of ts))) ts

-- the graph of them
unfoldable pub graph_of : List NodeTriple → List Triple
graph_of ts = set_of (named_triples ts)
