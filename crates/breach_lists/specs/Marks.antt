-- Marks of axioms.
use Rattle.std.specs.Prelude.{◌≡◌, ◌↔◌, ◌<◌, ℕ, Bool, true, false, List, Some, Contains, length, slice_get, slice_index_or}
use Rattle.owl_arena.specs.Held.{tree_at}
use Rattle.owl_pool.specs.Pooling.{Numbered}
use Rattle.owl_tree.specs.Trees.{Tree}

-- it is an axiom of one of these
pub record IsAxiomOf (ns : List Numbered) (id : ℕ) : Type 0 where
  pub numbers : Numbered
  pub among : Contains ns numbers
  pub has : Contains numbers.axioms id

-- for each of these axioms the mark at its number is true exactly where this is so of it
abbrev pub MarkAxioms : List Tree → List Numbered → (Tree → Type 0) → List Bool → Type 0
MarkAxioms ts ns IsSo marks = (id : ℕ) → IsAxiomOf ns id → (slice_index_or marks id false ≡ true) ↔ IsSo (tree_at ts id)

-- a mark stands at one of its places among the first
pub record IsMarkedBefore (count : ℕ) (axioms : List ℕ) (marks : List Bool) (id : ℕ) : Type 0 where
  pub place : ℕ
  pub before : place < count
  pub at : slice_get axioms place ≡ Some id
  pub mark : slice_get marks place ≡ Some true

-- a mark stands at one of its places
abbrev pub IsMarkedAmong : List ℕ → List Bool → ℕ → Type 0
IsMarkedAmong axioms marks id = IsMarkedBefore (length axioms) axioms marks id
