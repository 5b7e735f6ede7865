-- A copy of an arena up to some place.
use Rattle.std.proofs.Common.{◌≡◌, ◌<◌, ◌≤◌, ◌+◌, inl, inr, ℕ, List, [], ◌∷◌, ◌++◌, length, take, drop, Contains, None, Some, sym, ap, ◌∙◌, subst, arith}
use Rattle.std.proofs.lemmas.List.{get_or_default, length-take, take-append-drop, take_more}
use Rattle.std.proofs.lemmas.Option.{none-some, same_Some}
use Rattle.std.specs.List.{AllByRecursion}
use Rattle.owl_arena.specs.Growth.{Adds, Lacks}
use Rattle.owl_arena.specs.Held.{AreHeld, node_over, tree_at, trees_at}
use Rattle.owl_arena.proofs.HeldLaws.{below_later, kids_stay, more_agrees}
use Rattle.owl_arena.specs.Shared.{AreShared}
use Rattle.owl_tree.specs.declared.atom.Atom.{Atom}
use Rattle.owl_tree.specs.declared.tag.Tag.{Tag}
use Rattle.owl_tree.specs.Canonical.{canonical}
use Rattle.owl_tree.proofs.TreeLaws.{kids_of_list_of}
use Rattle.owl_tree.specs.Trees.{Tree, leaf, node, atom_in, kids_in, kids_of, tag_of}
use Rattle.rdf_normal.proofs.Extending.{canonical_at}

pub leaf_is : (t : Tree) (tag : Tag) (a : Atom) → tag ≡ tag_of t → Some a ≡ atom_in t → leaf tag a ≡ t
leaf_is (leaf u b) tag a e f = let same = same_Some a b f in cc
leaf_is (node u ks) tag a e f = absurd (none-some a (sym f))

pub node_is : (t : Tree) (tag : Tag) (ts : List Tree) → tag ≡ tag_of t → None ≡ atom_in t → ts ≡ kids_in t → node tag (kids_of ts) ≡ t
node_is (leaf u b) tag ts e f g = absurd (none-some b f)
node_is (node u ks) tag ts e f g = let h = ap kids_of g ∙ kids_of_list_of ks in cc

taken_length : (ts : List Tree) (id : ℕ) → id ≤ length ts → length (take id ts) ≡ id
taken_length ts id l = let e = length-take id ts in omega arith

taken_agree : (ts : List Tree) (id k : ℕ) → id ≤ length ts → k < id → tree_at (take id ts) k ≡ tree_at ts k
taken_agree ts id k l m =
    let long = taken_length ts id l in
    sym (more_agrees (take id ts) (drop id ts) k (omega arith)) ∙ ap (λ (xs : List Tree). tree_at xs k) (take-append-drop id ts)

-- the tree is not among those before it
not_before : (ts : List Tree) (id : ℕ) → AreShared ts → id < length ts → Lacks (take id ts) (tree_at ts id)
not_before ts id shared l m =
    let long = taken_length ts id (omega arith) in
    let at = taken_agree ts id m.0 (omega arith) (omega arith) in
    let same = shared.one_number m.0 id (omega arith) l (sym at ∙ get_or_default (take id ts) m.0 _ _ m.1 ∙ m.2) in
    omega arith

pub copied_one : (ts old new : List Tree) (id : ℕ) (t : Tree) → AreShared ts → id < length ts → old ≡ take id ts → t ≡ tree_at ts id → Adds old new t → new ≡ take (id + 1) ts
copied_one ts old new id t shared l e f (inl h) =
    absurd (not_before ts id shared l (subst (λ (u : Tree). Contains (take id ts) u) f (subst (λ (xs : List Tree). Contains xs t) e h.0)))
copied_one ts old new id t shared l e f (inr h) =
    h.1 ∙ ap (λ (xs : List Tree). xs ++ t ∷ []) e ∙ ap (λ (u : Tree). take id ts ++ u ∷ []) f ∙ sym (take_more ts id _ l)

kids_taken : (ts old : List Tree) (id : ℕ) (kids : List ℕ) → id ≤ length ts → old ≡ take id ts → AllByRecursion (λ k. k < id) kids → (trees_at old kids ≡ trees_at ts kids) × AreHeld old kids
kids_taken ts old id kids l e below =
    let long = taken_length ts id l in
    let held : AreHeld (take id ts) kids = below_later kids id (length (take id ts)) (omega arith) below in (
      ap (λ (xs : List Tree). trees_at xs kids) e ∙ sym (kids_stay (take id ts) (drop id ts) kids held) ∙ ap (λ (xs : List Tree). trees_at xs kids) (take-append-drop id ts),
      subst (λ (xs : List Tree). AreHeld xs kids) (sym e) held,
    )

pub kids_are_held : (ts old : List Tree) (id : ℕ) (kids : List ℕ) → id < length ts → old ≡ take id ts → AllByRecursion (λ k. k < id) kids → AreHeld old kids
kids_are_held ts old id kids l e below = (kids_taken ts old id kids (omega arith) e below).1

pub node_copied : (ts old : List Tree) (id : ℕ) (tag : Tag) (kids : List ℕ) → AreShared ts → id < length ts → old ≡ take id ts → tag ≡ tag_of (tree_at ts id) → None ≡ atom_in (tree_at ts id) → trees_at ts kids ≡ kids_in (tree_at ts id) → AllByRecursion (λ k. k < id) kids → canonical (node_over old tag kids) ≡ tree_at ts id
node_copied ts old id tag kids shared l e f g h below =
    let same = (kids_taken ts old id kids (omega arith) e below).0 ∙ h in
    ap canonical (node_is (tree_at ts id) tag (trees_at old kids) f g same) ∙ canonical_at ts id shared l
