-- Nodes of a graph that have the same triples, but for the subject.
use Rattle.std.specs.Prelude.{◌≡◌, ◌⊎◌, ◌++◌, ◌∷◌, [], ℕ, List, Option, Some, map, slice_get}
use Rattle.rdf_graph.specs.declared.term.Term.{Term}
use Rattle.rdf_graph.specs.declared.term.Term.TheVariants.{Blank}
use Rattle.rdf_graph.specs.declared.triple.Triple.{Triple}
use Rattle.rdf_meaning.specs.Nodes.{of_subject}
use Rattle.rdf_roles.specs.Tables.{RoleTable}
use Rattle.rdf_nodes.specs.Operands.{labels}

-- the predicate and the object of a triple
abbrev pub arc_of : Triple → List ℕ × Term
arc_of t = (t.predicate, t.object)

-- the triples of both terms have the same predicates and objects
abbrev pub HaveSameArcs : List Triple → Term → Term → Type 0
HaveSameArcs g x y = map arc_of (of_subject g x) ≡ map arc_of (of_subject g y)

-- so have those of the nodes with these numbers
pub record AreDuplicates (g : List Triple) (roles : RoleTable) (first second : ℕ) : Type 0 where
  pub first_label : List ℕ
  pub second_label : List ℕ
  pub first_at : slice_get (labels roles) first ≡ Some first_label
  pub second_at : slice_get (labels roles) second ≡ Some second_label
  pub same : HaveSameArcs g (Blank first_label) (Blank second_label)

-- the number is that of a node with the same triples
pub record IsNumberOfDuplicate {N : Type 0} (g : List Triple) (roles : RoleTable) (ns : List (Option N)) (node : ℕ) (n : N) : Type 0 where
  pub other : ℕ
  pub duplicates : AreDuplicates g roles other node
  pub at : slice_get ns other ≡ Some (Some n)

-- of numbers by hashes none goes, and at most this one comes behind them
abbrev pub AddsAtMost : List (ℕ × ℕ) → List (ℕ × ℕ) → ℕ → Type 0
AddsAtMost old new number = (new ≡ old) ⊎ ((hash : ℕ) × (new ≡ old ++ (hash, number) ∷ []))
