-- Where all nodes are formed, and no triple of a node names what it may not, each expression denotes a tree.
use Rattle.std.specs.Prelude.{List}
use Rattle.owl_kind.specs.Kinds.{Entity}
use Rattle.rdf_graph.specs.declared.term.Term.TheVariants.{Blank}
use Rattle.rdf_graph.specs.declared.triple.Triple.{Triple}
use Rattle.rdf_meaning.specs.Kinds.{HaveNoClash}
use Rattle.rdf_meaning.specs.Nodes.{role_of}
use Rattle.rdf_faults.specs.Faults.{IsBadCell, IsBadNode, IsCyclic, IsUntypedPart}
use Rattle.rdf_faults.proofs.SoundLaws.{expression_meant}
use Rattle.rdf_nodes.proofs.AmongLaws.{cell_among, cyclic_among, node_among, none_of}
use Rattle.rdf_nodes.proofs.ExpressionLaws.{meant_denotes}
use Rattle.rdf_nodes.specs.Large.{HasLargeNumber}
use Rattle.rdf_nodes.specs.Numbers.{DenoteTrees}
use Rattle.rdf_nodes.proofs.OfSortLaws.{gives_sort}
use Rattle.rdf_roles.specs.Refusals.{AreNodesFormed}

pub typed_denote_trees : (g : List Triple) (k : List Entity) → HaveNoClash k → AreNodesFormed g → ((t : Triple) → IsUntypedPart g k t → ⊥) → (HasLargeNumber g → ⊥) → DenoteTrees g k
typed_denote_trees g k no_clash nodes typed small = record {
  small = small;
  trees = λ label s gives.
      meant_denotes g k (Blank label) s gives
      (expression_meant g (none_of g (IsBadCell g) nodes.cells (cell_among g)) (none_of g (IsBadNode g) nodes.forms (node_among g)) k (none_of g (IsCyclic g) nodes.no_cycle (cyclic_among g)) typed no_clash (Blank label) s (gives_sort (role_of g (Blank label)) s gives));
}
