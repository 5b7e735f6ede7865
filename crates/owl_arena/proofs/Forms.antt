-- What equality of forms means.
use Rattle.std.proofs.Common.{◌≡◌, ◌≤◌, length, ◌↔◌, IsTrue, Bool, ◌&&◌, ℕ, List, [], ◌∷◌, refl, ap, rules, tests}
use Rattle.std.specs.Cmp.{first_so, second_so}
use Rattle.std.specs.Cmp.Derive.{both_true}
use Rattle.std.specs.Cmp.Lexicographic.{pointwise}
use Rattle.owl_tree.specs.OrderLaws.{same_atom, same_tag}
use Rattle.owl_arena.specs.declared.nodes.Form.{Form}
use Rattle.owl_arena.specs.declared.nodes.Form.TheVariants as form
use Rattle.owl_arena.proofs.HeldLaws.{below_later, same_kids}
use Rattle.owl_arena.specs.Held.{trees_at}
use Rattle.owl_arena.specs.Nodes.{AreKidsBelow, IsSameForm, tree_of}
use Rattle.owl_arena.specs.Shared.{HaveOneNumber}
use Rattle.owl_tree.proofs.TreeLaws.{kids_of_only}
use Rattle.owl_tree.specs.Trees.{Tree, kids_of}
use Rattle.owl_arena.specs.contracts.expr_id.ExprIdPartialEq.TheImpl as ids
use Rattle.owl_arena.specs.contracts.nodes.FormPartialEq.TheImpl as derived

both : (a b : Bool) (P Q : Type 0) → IsTrue a ↔ P → IsTrue b ↔ Q → IsTrue (a && b) ↔ (P × Q)
both a b P Q p q = (λ h. (p.0 (first_so a b h), q.0 (second_so a b h)), λ h. both_true (p.1 h.0) (q.1 h.1))

same_id : (i j : ℕ) → IsTrue (ids.ghosts.eq i j) ↔ (i ≡ j)
same_id i j = search (rules, tests)

same_ids : (ks ls : List ℕ) → IsTrue (pointwise ids.ghosts.eq ks ls) ↔ (ks ≡ ls)
same_ids [] [] = (λ h. refl, λ h. refl)
same_ids [] (l ∷ ls) = (λ h. cc, λ h. cc)
same_ids (k ∷ ks) [] = (λ h. cc, λ h. cc)
same_ids (k ∷ ks) (l ∷ ls) =
    let h = both (ids.ghosts.eq k l) (pointwise ids.ghosts.eq ks ls) (k ≡ l) (ks ≡ ls) (same_id k l) (same_ids ks ls) in
    (λ e. let f = h.0 e in let f0 = f.0 in let f1 = f.1 in cc, λ e. h.1 (cc, cc))

pub same_form : (f g : Form) → IsTrue (derived.ghosts.eq f g) ↔ IsSameForm f g
same_form (form.Leaf t a) (form.Leaf u b) = both _ _ (t ≡ u) (a ≡ b) (same_tag t u) (same_atom a b)
same_form (form.Leaf t a) (form.Branch u ls) = (λ h. cc, λ h. absurd h)
same_form (form.Branch t ks) (form.Leaf u b) = (λ h. cc, λ h. absurd h)
same_form (form.Branch t ks) (form.Branch u ls) = both _ _ (t ≡ u) (ks.items ≡ ls.items) (same_tag t u) (same_ids ks.items ls.items)

-- forms over the trees are the same exactly where their trees are
pub same_tree : (ts : List Tree) (f g : Form) → IsSameForm f g → tree_of ts f ≡ tree_of ts g
same_tree ts (form.Leaf t a) (form.Leaf u b) h = let e = h.0 in let d = h.1 in cc
same_tree ts (form.Leaf t a) (form.Branch u ls) h = absurd h
same_tree ts (form.Branch t ks) (form.Leaf u b) h = absurd h
same_tree ts (form.Branch t ks) (form.Branch u ls) h = let e = h.0 in let d = ap (λ (is : List ℕ). kids_of (trees_at ts is)) h.1 in cc

pub same_tree_form : (ts : List Tree) → HaveOneNumber ts → (f g : Form) → AreKidsBelow (length ts) f → AreKidsBelow (length ts) g → tree_of ts f ≡ tree_of ts g → IsSameForm f g
same_tree_form ts one (form.Leaf t a) (form.Leaf u b) h k e = (cc, cc)
same_tree_form ts one (form.Leaf t a) (form.Branch u ls) h k e = cc
same_tree_form ts one (form.Branch t ks) (form.Leaf u b) h k e = cc
same_tree_form ts one (form.Branch t ks) (form.Branch u ls) h k e =
    let kids = kids_of_only (trees_at ts ks.items) (trees_at ts ls.items) (cc) in
    (cc, same_kids ts one ks.items ls.items h k kids)

pub kids_below_later : (f : Form) (m n : ℕ) → m ≤ n → AreKidsBelow m f → AreKidsBelow n f
kids_below_later (form.Leaf t a) m n h b = tt
kids_below_later (form.Branch t ks) m n h b = below_later ks.items m n h b
