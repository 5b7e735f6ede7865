use Rattle.std.specs.Prelude.{List}
use Rattle.owl_kind.specs.Kinds.{Entity}
use Rattle.rdf_graph.specs.declared.triple.Triple.{Triple}
use Rattle.rdf_asked.specs.Listed.{AreKnownLists}
use Rattle.rdf_asked.proofs.shared.none_known.Given as goal

abbrev pub invariant-loop-node : goal.invariant-loop-node
invariant-loop-node l = (g : List Triple) (k : List Entity) → AreKnownLists g k l.lists.items
