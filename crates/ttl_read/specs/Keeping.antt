-- Which of the triples that were stated are held.
use Rattle.std.specs.Prelude.{◌≡◌, ◌≤◌, ◌<◌, ◌^◌, ℕ, List, Contains, length}
use Rattle.std.specs.List.{AllByRecursion}
use Rattle.owl_list.specs.Ascending.{AreApart}
use Rattle.rdf_graph.specs.Graphs.{most_triples}
use Rattle.ttl_grammar.specs.States.{Facts}
use Rattle.ttl_grammar.specs.declared.node.Node.{Node}
use Rattle.ttl_grammar.specs.declared.node.Node.TheVariants as node
use Rattle.ttl_grammar.specs.declared.node.NodeTriple.{NodeTriple}
use Rattle.ttl_grammar.specs.declared.node.Object.{Object}
use Rattle.ttl_grammar.specs.declared.node.Object.TheVariants as object

-- Numbers of nodes, and of triples that were stated, that memory and time reach.
abbrev pub most_nodes : ℕ
most_nodes = 2 ^ 61

abbrev pub IsNearNode : Node → Type 0
IsNearNode (node.Iri iri) = Unit {0}
IsNearNode (node.Label label) = Unit {0}
IsNearNode (node.Unlabelled n) = n < most_nodes

abbrev pub IsNearObject : Object → Type 0
IsNearObject (object.Node n) = IsNearNode n
IsNearObject (object.Literal literal) = Unit {0}

abbrev pub IsNear : NodeTriple → Type 0
IsNear t = IsNearNode t.subject × IsNearObject t.object

-- triples that are held: each once, and with numbers that memory reaches
pub record AreKept (ts : List NodeTriple) : Type 0 where
  pub once : AreApart ts
  pub near : AllByRecursion IsNear ts

-- Of the triples that were stated these are held, each once: all, unless they are more than a graph may have.
pub record AreHeld (held stated : List NodeTriple) : Type 0 where
  pub once : AreApart held
  pub within : (t : NodeTriple) → Contains held t → Contains stated t
  pub all : length held ≤ most_triples → (t : NodeTriple) → Contains stated t → Contains held t

-- Equal facts, but for the triples: of these some are held.
pub record AreSame (held facts : Facts) : Type 0 where
  pub others : held ≡ record facts { triples = held.triples }
  pub triples : AreHeld held.triples facts.triples
