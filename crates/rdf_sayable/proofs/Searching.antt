-- The first objection to trees, one after the other.
use Rattle.std.proofs.Common.{◌≡◌, ℕ, List, [], ◌∷◌, ◌++◌, Option, None, Some, refl, sym, ap, ◌∙◌}
use Rattle.std.specs.Option.{option_or}
use Rattle.std.proofs.lemmas.Option.{none-some, same_Some}
use Rattle.owl_arena.specs.Held.{tree_at}
use Rattle.owl_tree.specs.declared.atom.Atom.{Atom}
use Rattle.owl_tree.proofs.TreeLaws.{kids_of_list_of}
use Rattle.owl_tree.specs.Trees.{Tree, leaf, node, atom_in, kids_in, kids_of, tag_of}
use Rattle.owl_doc.specs.Parts.{Leaf, leaves, leaves_at, leaves_of}
use Rattle.sayable_parts.proofs.WalkLaws.{first_along, or_assoc, or_none}
use Rattle.sayable_parts.specs.Reasons.{Objection}
use Rattle.rdf_sayable.specs.Sayable.{atom_objection, first_objection, objection}

-- a leaf is the first of its own leaves, and a node has those of its kids
pub leaf_objection : (t : Tree) (a : Atom) → Some a ≡ atom_in t → atom_objection (tag_of t) a ≡ first_objection (leaves t)
leaf_objection (leaf t b) a e = ap (atom_objection t) (same_Some a b e) ∙ sym (or_none (atom_objection t b))
leaf_objection (node t ks) a e = absurd (none-some a (sym e))

pub node_objection : (t : Tree) → None ≡ atom_in t → first_objection (leaves_of (kids_of (kids_in t))) ≡ first_objection (leaves t)
node_objection (leaf t a) e = absurd (none-some a e)
node_objection (node t ks) e = ap (λ ls. first_objection (leaves_of ls)) (kids_of_list_of ks)

both_objections : (ls ks : List Leaf) → first_objection (ls ++ ks) ≡ option_or (first_objection ls) (first_objection ks)
both_objections [] ks = refl
both_objections (l ∷ ls) ks = ap (λ (o : Option Objection). option_or (objection l) o) (both_objections ls ks) ∙ or_assoc (objection l) (first_objection ls) (first_objection ks)

module _ (ts : List Tree) where
  abbrev pub objection_at : ℕ → Option Objection
  objection_at id = first_objection (leaves (tree_at ts id))

  -- the leaves of trees, one tree after the other
  pub along_trees : (ids : List ℕ) → first_along objection_at ids ≡ first_objection (leaves_at ts ids)
  along_trees [] = refl
  along_trees (id ∷ ids) =
      ap (λ (o : Option Objection). option_or (objection_at id) o) (along_trees ids)
      ∙ sym (both_objections (leaves (tree_at ts id)) (leaves_at ts ids))
