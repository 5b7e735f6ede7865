-- Graphs that have none of the faults.
use Rattle.std.specs.Prelude.{◌≡◌, ℕ, List, [], ◌∷◌}
use Rattle.owl_kind.specs.Kinds.{Entity}
use Rattle.rdf_graph.specs.declared.term.Term.{Term}
use Rattle.rdf_graph.specs.declared.triple.Triple.{Triple}
use Rattle.rdf_meaning.specs.Kinds.{HaveNoClash}
use Rattle.rdf_meaning.specs.Statements.{headers}
use Rattle.rdf_faults.specs.Faults.{IsBadCell, IsBadHeader, IsBadNode, IsCyclic, IsMixed, IsOfNothing, IsOrphan, IsUntypedPart, IsUntypedStatement}

-- No IRI has a clash, one node is the header, and no node and no triple has a fault. That a triple takes a reserved IRI need not be asked: such a
-- triple is no axiom by its terms.
pub record IsFaultless (g : List Triple) (k : List Entity) : Type 0 where
  pub no_clash : HaveNoClash k
  pub header : Term
  pub one_header : headers g ≡ header ∷ []
  pub good_header : IsBadHeader g header → ⊥
  pub no_mixed : (label : List ℕ) → IsMixed g label → ⊥
  pub no_bad_cell : (label : List ℕ) → IsBadCell g label → ⊥
  pub no_cyclic : (label : List ℕ) → IsCyclic g label → ⊥
  pub no_bad_node : (label : List ℕ) → IsBadNode g label → ⊥
  pub no_note_of_nothing : (label : List ℕ) → IsOfNothing g k header label → ⊥
  pub no_untyped_part : (t : Triple) → IsUntypedPart g k t → ⊥
  pub no_untyped_statement : (t : Triple) → IsUntypedStatement g k header t → ⊥
  pub no_orphan : (label : List ℕ) → IsOrphan g k header label → ⊥
