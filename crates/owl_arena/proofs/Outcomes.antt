-- What comes of a node over kids that are there.
use Rattle.std.proofs.Common.{◌≡◌, ◌<◌, ◌≤◌, List, [], ◌∷◌, ℕ, sym, ap, ◌∙◌, subst}
use Rattle.owl_tree.specs.declared.tag.Tag.{Tag}
use Rattle.owl_tree.specs.Canonical.{canonical, arranged}
use Rattle.owl_tree.proofs.CanonicalLaws.{canonical_again, canonical_depth, node_of_forms}
use Rattle.owl_tree.specs.Rows.{row_of, set_start}
use Rattle.owl_tree.specs.Shape.{AreShaped, FitsRow, IsShaped}
use Rattle.owl_tree.proofs.ShapeLaws.{canonical_shape}
use Rattle.owl_tree.proofs.TreeLaws.{list_of_kids_of}
use Rattle.owl_tree.specs.Trees.{Tree, depth, kids_of, node, weight}
use Rattle.owl_arena.specs.Growth.{IsTooDeep, IsTooHeavy, IsWithin}
use Rattle.owl_arena.specs.Held.{AreHeld, node_over, trees_at}
use Rattle.owl_arena.specs.Shared.{AreShared, IsEntry, deepest, heaviest}
use Rattle.owl_arena.proofs.HeldLaws.{entry_at, kids_canonical}

-- kids that are there are shaped and canonical
kids_shaped : (ts : List Tree) → AreShared ts → (ids : List ℕ) → AreHeld ts ids → AreShaped (kids_of (trees_at ts ids))
kids_shaped ts shared [] h = tt
kids_shaped ts shared (id ∷ ids) h = ((entry_at ts id shared h.0).shaped, kids_shaped ts shared ids h.1)

pub not_shaped : (ts : List Tree) (tag : Tag) (ids tested : List ℕ) → tested ≡ ids → (FitsRow tag (trees_at ts tested) → ⊥) → IsShaped (node_over ts tag ids) → ⊥
not_shaped ts tag ids tested same h shaped =
    h (subst (λ (ks : List ℕ). FitsRow tag (trees_at ts ks)) (sym same) (subst (FitsRow tag) (list_of_kids_of (trees_at ts ids)) shaped.0))

-- a tree that has a shape, and its canonical form
pub record IsFormOf (t form : Tree) : Type 0 where
  pub shaped : IsShaped t
  pub is_form : canonical t ≡ form

-- that of a node whose kids fit is the node over the kids as they are arranged
form_over : (ts : List Tree) (tag : Tag) (ids sorted : List ℕ) → AreShared ts → AreHeld ts ids → FitsRow tag (trees_at ts ids) → trees_at ts sorted ≡ arranged (set_start (row_of tag)) (trees_at ts ids) → IsFormOf (node_over ts tag ids) (node_over ts tag sorted)
form_over ts tag ids sorted shared held fits e = record {
  shaped = (subst (FitsRow tag) (sym (list_of_kids_of (trees_at ts ids))) fits, kids_shaped ts shared ids held);
  is_form = node_of_forms tag (trees_at ts ids) (kids_canonical ts shared ids held) ∙ ap (λ (us : List Tree). node tag (kids_of us)) (sym e);
}

-- the same, of kids that were tested as a slice, in an arena that has the trees
pub form_in : (inside ts : List Tree) (tag : Tag) (ids sorted tested : List ℕ) → inside ≡ ts → AreShared inside → AreHeld ts ids → tested ≡ ids → FitsRow tag (trees_at ts tested) → trees_at ts sorted ≡ arranged (set_start (row_of tag)) (trees_at ts ids) → IsFormOf (node_over ts tag ids) (node_over ts tag sorted)
form_in inside ts tag ids sorted tested seen shared held same fits e =
    form_over ts tag ids sorted (subst AreShared seen shared) held (subst (λ (ks : List ℕ). FitsRow tag (trees_at ts ks)) same fits) e

form_depth : (t form : Tree) → canonical t ≡ form → depth form ≡ depth t
form_depth t form e = sym (ap depth e) ∙ canonical_depth t

pub is_entry : (t form : Tree) → IsFormOf t form → depth form ≤ deepest → weight form ≤ heaviest → IsEntry form
is_entry t form f d w = record {
  shaped = subst IsShaped f.is_form ((canonical_shape t).0 f.shaped);
  canonical = subst (λ (u : Tree). canonical u ≡ u) f.is_form (canonical_again t);
  depth = d;
  weight = w;
}

pub is_within : (t form : Tree) → IsFormOf t form → depth form ≤ deepest → weight form ≤ heaviest → IsWithin t
is_within t form f d w = record {
  shaped = f.shaped;
  not_deep = subst (λ (n : ℕ). n ≤ deepest) (form_depth t form f.is_form) d;
  not_heavy = subst (λ (u : Tree). weight u ≤ heaviest) (sym f.is_form) w;
}

pub is_too_deep : (t form : Tree) → IsFormOf t form → deepest < depth form → IsTooDeep t
is_too_deep t form f d = record { shaped = f.shaped; deep = subst (λ (n : ℕ). deepest < n) (form_depth t form f.is_form) d }

pub is_too_heavy : (t form : Tree) → IsFormOf t form → depth form ≤ deepest → heaviest < weight form → IsTooHeavy t
is_too_heavy t form f d w = record {
  shaped = f.shaped;
  not_deep = subst (λ (n : ℕ). n ≤ deepest) (form_depth t form f.is_form) d;
  heavy = subst (λ (u : Tree). heaviest < weight u) (sym f.is_form) w;
}
