-- The trees of several documents in one arena.
use Rattle.std.specs.Prelude.{◌≡◌, ◌++◌, ℕ, List, Some, refl, slice_get, slice_index_or}
use Rattle.std.specs.Coded.{Coded, code_by, coded×, coded_list, coded_ℕ}
use Rattle.std.specs.List.{AllZip}
use Rattle.owl_arena.specs.Growth.{Adds}
use Rattle.owl_arena.specs.Held.{AreHeld, trees_at}
use Rattle.owl_tree.specs.Ontologies.{Ontology}
use Rattle.owl_tree.specs.Trees.{Tree}

-- annotations and axioms, by their numbers
pub record Numbered : Type 0 where
  pub notes : List ℕ
  pub axioms : List ℕ

-- it is stored as the pair of its fields
abbrev pub numbered_code : Coded Numbered
numbered_code = code_by (List ℕ × List ℕ) (coded× (coded_list coded_ℕ) (coded_list coded_ℕ)) (λ n. (n.notes, n.axioms)) (λ p. record { notes = p.0; axioms = p.1 }) (λ _. refl)

-- the others are among the trees, by these numbers
pub record AreNumbers (ts : List Tree) (numbers : List ℕ) (others : List Tree) : Type 0 where
  pub held : AreHeld ts numbers
  pub trees : trees_at ts numbers ≡ others

-- what the ontology says is among the trees
pub record IsPooled (ts : List Tree) (o : Ontology) (n : Numbered) : Type 0 where
  pub notes : AreNumbers ts n.notes o.annotations
  pub axioms : AreNumbers ts n.axioms o.axioms

-- what each of them says
abbrev pub ArePooled : List Tree → List Ontology → List Numbered → Type 0
ArePooled ts os ns = AllZip (IsPooled ts) os ns

-- the trees keep their numbers, and others may stand behind them
pub record Grows (old new : List Tree) : Type 0 where
  pub more : List Tree
  pub trees : new ≡ old ++ more

-- the tree has the number, and no other tree came
pub record IsPoured (old new : List Tree) (t : Tree) (number : ℕ) : Type 0 where
  pub added : Adds old new t
  pub at : slice_get new number ≡ Some t

-- the number that stands at this place
abbrev pub number_at : List ℕ → ℕ → ℕ
number_at numbers place = slice_index_or numbers place 0
