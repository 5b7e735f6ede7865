-- The kids of a tree, and the depth and weight of a node over them.
use Rattle.std.proofs.Common.{◌≡◌, ◌<◌, ◌≤◌, ◌+◌, ℕ, max, IsTrue, Vec, Global, List, length, get_or, drop, refl, sym, ap, ◌∙◌, subst}
use Rattle.std.specs.List.{AllByRecursion}
use Rattle.std.proofs.lemmas.List.{at_drop_more, at_drop_all}
use Rattle.owl_tree.specs.declared.atom.Atom.{Atom}
use Rattle.owl_tree.specs.declared.tag.Tag.{Tag}
use Rattle.owl_tree.specs.declared.row.AtomSort.{AtomSort}
use Rattle.owl_tree.specs.Rows.{Row, Leaf, Node, row_of, takes}
use Rattle.owl_tree.specs.Shape.{IsShaped}
use Rattle.owl_tree.proofs.TreeLaws.{list_of_kids_of}
use Rattle.owl_tree.specs.Trees.{Tree, leaf, depth, kids_in, kids_of, most_depth, sum_weight, tag_of, weight}
use Rattle.owl_arena.specs.declared.expr_id.ExprId.{ExprId}
use Rattle.owl_arena.specs.declared.nodes.Form.{Form}
use Rattle.owl_arena.specs.declared.nodes.Form.TheVariants as form
use Rattle.owl_arena.specs.Held.{IsLeafTag, tree_at, trees_at}
use Rattle.owl_arena.specs.Nodes.{tree_of, AreKidsBelow}

pub branch_kids : (ts : List Tree) (t : Tree) (f : Form) (tag : Tag) (kids : Vec ExprId Global) (ids : List ℕ) → tree_of ts f ≡ t → f ≡ form.Branch tag kids → ids ≡ kids.items → trees_at ts ids ≡ kids_in t
branch_kids ts t f tag kids ids e g h =
    ap (trees_at ts) h ∙ sym (list_of_kids_of (trees_at ts kids.items)) ∙ ap kids_in (ap (tree_of ts) (sym g) ∙ e)

pub branch_below : (n : ℕ) (f : Form) (tag : Tag) (kids : Vec ExprId Global) (ids : List ℕ) → AreKidsBelow n f → f ≡ form.Branch tag kids → ids ≡ kids.items → AllByRecursion (λ k. k < n) ids
branch_below n f tag kids ids b g h = subst (AllByRecursion (λ (k : ℕ). k < n)) (sym h) (subst (AreKidsBelow n) g b)

row_takes : (row : Row) (a : Atom) → IsTrue (takes row a) → (sort : AtomSort) × (row ≡ Leaf sort)
row_takes (Leaf sort) a h = (sort, refl)
row_takes (Node front rest) a h = cc

leaf_row : (t : Tree) (tag : Tag) (a : Atom) → IsShaped t → leaf tag a ≡ t → IsLeafTag (tag_of t)
leaf_row t tag a h e = subst (λ (u : Tree). IsLeafTag (tag_of u)) e (row_takes (row_of tag) a (subst IsShaped (sym e) h).0)

pub leaf_tag : (ts : List Tree) (t : Tree) (f : Form) (tag : Tag) (a : Atom) → IsShaped t → tree_of ts f ≡ t → f ≡ form.Leaf tag a → IsLeafTag (tag_of t)
leaf_tag ts t f tag a h e g = leaf_row t tag a h (ap (tree_of ts) (sym g) ∙ e)

pub depth_step : (ts : List Tree) (ids : List ℕ) (i : ℕ) → i < length ids → most_depth (kids_of (trees_at ts (drop i ids))) ≡ max (depth (tree_at ts (get_or ids i 0))) (most_depth (kids_of (trees_at ts (drop (i + 1) ids))))
depth_step ts ids i h = at_drop_more (λ (ks : List ℕ). most_depth (kids_of (trees_at ts ks))) ids i 0 h

pub depth_end : (ts : List Tree) (ids : List ℕ) (i : ℕ) → length ids ≤ i → most_depth (kids_of (trees_at ts (drop i ids))) ≡ 0
depth_end ts ids i h = at_drop_all (λ (ks : List ℕ). most_depth (kids_of (trees_at ts ks))) ids i h

pub weight_step : (ts : List Tree) (ids : List ℕ) (i : ℕ) → i < length ids → sum_weight (kids_of (trees_at ts (drop i ids))) ≡ weight (tree_at ts (get_or ids i 0)) + sum_weight (kids_of (trees_at ts (drop (i + 1) ids)))
weight_step ts ids i h = at_drop_more (λ (ks : List ℕ). sum_weight (kids_of (trees_at ts ks))) ids i 0 h

pub weight_end : (ts : List Tree) (ids : List ℕ) (i : ℕ) → length ids ≤ i → sum_weight (kids_of (trees_at ts (drop i ids))) ≡ 0
weight_end ts ids i h = at_drop_all (λ (ks : List ℕ). sum_weight (kids_of (trees_at ts ks))) ids i h
