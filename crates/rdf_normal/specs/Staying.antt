-- What the steps leave as it is.
use Rattle.std.specs.Prelude.{◌≡◌, ◌<◌, ℕ, false, List, Option}
use Rattle.owl_arena.specs.Held.{tree_at}
use Rattle.owl_tree.specs.Trees.{Tree}
use Rattle.rdf_normal.specs.Tidied.{IsPlain}
use Rattle.rdf_normal.specs.NormalForms.{is_about, is_annotated, tidied}

-- the first so many trees stay when they are tidied
abbrev pub StayTidied : List Tree → ℕ → Type 0
StayTidied ts n = (id : ℕ) → id < n → tidied (tree_at ts id) ≡ tree_at ts id

-- it has no annotations
abbrev pub IsBare : Tree → Type 0
IsBare t = is_annotated t ≡ false

-- no step has anything to do with the axiom, of an ontology that is called so
pub record IsKept (name : Option (List ℕ)) (t : Tree) : Type 0 where
  pub plain : IsPlain t
  pub other : is_about name t ≡ false
  pub bare : IsBare t
