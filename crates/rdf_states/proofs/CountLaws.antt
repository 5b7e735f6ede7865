-- The graph of an ontology has no more nodes than some times what the ontology weighs.
use Rattle.std.proofs.Common.{◌≡◌, ◌≤◌, ◌+◌, ◌*◌, ◌^◌, ◌⊎◌, inl, inr, ℕ, suc, Bool, true, false, List, [], ◌∷◌, ◌++◌, length, refl, sym, ap, ◌∙◌, subst, arith}
use Rattle.std.specs.Prelude.{Contains, cond, map, Option, None, Some}
use Rattle.std.specs.List.{filter, flat_map, sum_by}
use Rattle.std.specs.declared.cmp.Ordering.{Ordering}
use Rattle.std.specs.declared.cmp.Ordering.TheVariants.{Less, Equal, Greater}
use Rattle.std.specs.Cmp.{Equal-is}
use Rattle.std.specs.Ordering.{eq_by_cmp}
use Rattle.std.proofs.lemmas.List.{length-append}
use Rattle.std.proofs.lemmas.List.Concat.{length-flat_map}
use Rattle.std.proofs.lemmas.List.Sums.{sum_by-append, sum_by-cons, sum_by-le-sum_by}
use Rattle.owl_arena.specs.Shared.{heaviest}
use Rattle.owl_list.specs.Ascending.{AreApart, ascending, by_order, put}
use Rattle.owl_list.proofs.AscendingLaws.{ascending_apart, in_head, in_tail}
use Rattle.owl_tree.specs.declared.atom.Atom.TheVariants as atom
use Rattle.owl_tree.specs.Ontologies.{Ontology, OntologyName, canonical_list, ontology_weight}
use Rattle.owl_tree.specs.Order.{tree_cmp}
use Rattle.owl_tree.specs.OrderLaws.{only_equal_trees_tie, trees_total}
use Rattle.owl_tree.specs.Trees.{Tree, Kids, leaf, node, no_kids, kid, sum_weight, weight}
use Rattle.rdf_mapping.specs.Drawing.{Statement, linked, linked_back, looped, standing, unsaid, statement_of}
use Rattle.rdf_mapping.specs.Forms.{Arcs, arc_nodes, nodes}
use Rattle.rdf_mapping.specs.GraphEntries.{made_nodes}
use Rattle.rdf_mapping.specs.GroupFrames.{group_nodes}
use Rattle.rdf_mapping.specs.Graphs.{axiom_notes, bare, bare_axioms, group_of, groups_of, header_nodes, labels_in, all_labels_in, labels_of, notes_from, set_nodes, standing_nodes, statement_nodes}
use Rattle.rdf_mapping.specs.Notes.{Notes, no_notes, note, annotation_in, note_nodes, notes_in, notes_of, reified_nodes}
use Rattle.rdf_states.proofs.StatedLaws.{bare_statement}
use Rattle.rdf_states.proofs.StatementCountLaws.{own_nodes, statement_within}

-- Annotations.

reified_within : (ns : Notes) → reified_nodes ns ≤ suc (note_nodes ns)
reified_within no_notes = omega arith
reified_within (note p v inside more) = omega arith

mutual
  notes_within : (t : Tree) → suc (note_nodes (notes_of t)) ≤ weight t
  notes_within (leaf t a) = omega arith
  notes_within (node t ks) = let h = all_notes_within ks in omega (arith, h)

  all_notes_within : (ks : Kids) → note_nodes (notes_in ks) ≤ sum_weight ks
  all_notes_within no_kids = omega arith
  all_notes_within (kid t ks) = let a = annotation_within t (notes_in ks) in let b = all_notes_within ks in omega (arith, a, b)

  annotation_within : (t : Tree) (more : Notes) → note_nodes (annotation_in t more) ≤ weight t + note_nodes more
  annotation_within (node t (kid ns (kid (leaf tp (atom.Iri p)) (kid (leaf tv v) no_kids)))) more =
      let a = reified_within (notes_of ns) in let b = notes_within ns in omega (arith, a, b)
  annotation_within _ more = omega arith

header_notes_within : (ts : List Tree) → note_nodes (notes_from ts) ≤ sum_by weight ts
header_notes_within [] = omega arith
header_notes_within (t ∷ ts) =
    let both = sum_by-cons weight t ts in
    let a = annotation_within t (notes_from ts) in
    omega (arith, both, a, header_notes_within ts)

axiom_notes_within : (a : Tree) → suc (note_nodes (axiom_notes a)) ≤ weight a
axiom_notes_within (leaf t a) = omega arith
axiom_notes_within (node t no_kids) = omega arith
axiom_notes_within (node t (kid ns ks)) = let h = notes_within ns in omega (arith, h)

-- Groups of axioms.

-- the most nodes of an axiom, by what it is without annotations
abbrev nodes_by : Tree → Tree → ℕ
nodes_by b a = own_nodes (statement_of b) + suc (note_nodes (axiom_notes a))

axiom_within : (a : Tree) → nodes_by (bare a) a ≤ 4 * weight a
axiom_within a =
    let same = ap own_nodes (bare_statement a) in
    omega (arith, same, statement_within a, axiom_notes_within a)

module _ (m : ℕ) where
  abbrev with_notes : Tree → ℕ
  with_notes a = m + suc (note_nodes (axiom_notes a))

  sets_within : (axioms : List Tree) → set_nodes (map axiom_notes axioms) ≤ sum_by with_notes axioms
  sets_within [] = omega arith
  sets_within (a ∷ axioms) =
      let both = sum_by-cons with_notes a axioms in
      omega (arith, both, reified_within (axiom_notes a), sets_within axioms)

  standing_within : (arcs : Arcs) → suc (arc_nodes arcs) ≤ m → (axioms : List Tree) → standing_nodes arcs (map axiom_notes axioms) ≤ sum_by with_notes axioms
  standing_within arcs h [] = omega arith
  standing_within arcs h (a ∷ axioms) =
      let both = sum_by-cons with_notes a axioms in
      let rest = standing_within arcs h axioms in
      omega (arith, both, h, rest)

group_within : (s : Statement) (axioms : List Tree) → statement_nodes s (map axiom_notes axioms) ≤ own_nodes s + sum_by (with_notes (own_nodes s)) axioms
group_within (linked f p g) axioms = let h = sets_within (nodes f + nodes g) axioms in omega (arith, h)
group_within (linked_back f p g) axioms = let h = sets_within (nodes f + nodes g) axioms in omega (arith, h)
group_within (looped p f) axioms = let h = sets_within (nodes f) axioms in omega (arith, h)
group_within (standing arcs) axioms = let h = standing_within (suc (arc_nodes arcs)) arcs (omega arith) axioms in omega (arith, h)
group_within unsaid axioms = omega arith

-- Each axiom is in one group.

module _ {X : Type 0} (cmp : X → X → Ordering) (f : X → ℕ) where
  order_within : (o : Ordering) (x y : X) (ys rest : List X) → sum_by f rest ≤ f x + sum_by f ys → sum_by f (by_order o (x ∷ y ∷ ys) (y ∷ ys) (y ∷ rest)) ≤ f x + sum_by f (y ∷ ys)
  order_within Less x y ys rest h = let a = sum_by-cons f x (y ∷ ys) in omega (arith, a)
  order_within Equal x y ys rest h = omega arith
  order_within Greater x y ys rest h = let a = sum_by-cons f y ys in let b = sum_by-cons f y rest in omega (arith, a, b, h)

  put_within : (x : X) (ys : List X) → sum_by f (put cmp x ys) ≤ f x + sum_by f ys
  put_within x [] = let a = sum_by-cons f x [] in omega (arith, a)
  put_within x (y ∷ ys) = order_within (cmp x y) x y ys (put cmp x ys) (put_within x ys)

  -- what stands twice counts once
  ascending_within : (xs : List X) → sum_by f (ascending cmp xs) ≤ sum_by f xs
  ascending_within [] = omega arith
  ascending_within (x ∷ xs) =
      let a = sum_by-cons f x xs in
      let b = put_within x (ascending cmp xs) in
      omega (arith, a, b, ascending_within xs)

-- what an axiom adds to the group of the bare one
abbrev share : Tree → Tree → ℕ
share b a = cond (eq_by_cmp tree_cmp (bare a) b) (nodes_by b a) 0

filter_by : (b a : Tree) (axioms kept : List Tree) (e : Bool) → eq_by_cmp tree_cmp (bare a) b ≡ e → sum_by (nodes_by b) kept ≡ sum_by (share b) axioms → sum_by (nodes_by b) (cond (eq_by_cmp tree_cmp (bare a) b) (a ∷ kept) kept) ≡ sum_by (share b) (a ∷ axioms)
filter_by b a axioms kept true e h =
    let first = sum_by-cons (share b) a axioms in
    let second = sum_by-cons (nodes_by b) a kept in
    let here : share b a ≡ nodes_by b a = ap (λ (c : Bool). cond c (nodes_by b a) 0) e in
    ap (λ (c : Bool). sum_by (nodes_by b) (cond c (a ∷ kept) kept)) e ∙ omega (arith, first, second, here, h)
filter_by b a axioms kept false e h =
    let first = sum_by-cons (share b) a axioms in
    let here : share b a ≡ 0 = ap (λ (c : Bool). cond c (nodes_by b a) 0) e in
    ap (λ (c : Bool). sum_by (nodes_by b) (cond c (a ∷ kept) kept)) e ∙ omega (arith, first, here, h)

shares : (b : Tree) (axioms : List Tree) → sum_by (nodes_by b) (filter (λ a. eq_by_cmp tree_cmp (bare a) b) axioms) ≡ sum_by (share b) axioms
shares b [] = refl
shares b (a ∷ axioms) =
    filter_by b a axioms (filter (λ c. eq_by_cmp tree_cmp (bare c) b) axioms) (eq_by_cmp tree_cmp (bare a) b) refl (shares b axioms)

groups_within : (axioms bs : List Tree) → group_nodes (map (group_of axioms) bs) ≤ sum_by (λ b. own_nodes (statement_of b)) bs + sum_by (λ b. sum_by (share b) axioms) bs
groups_within axioms [] = omega arith
groups_within axioms (b ∷ bs) =
    let here = group_within (statement_of b) (filter (λ a. eq_by_cmp tree_cmp (bare a) b) axioms) in
    let same = shares b axioms in
    let own = sum_by-cons (λ c. own_nodes (statement_of c)) b bs in
    let all = sum_by-cons (λ c. sum_by (share c) axioms) b bs in
    omega (arith, here, same, own, all, groups_within axioms bs)

share_by : (b a : Tree) (e : Bool) → eq_by_cmp tree_cmp (bare a) b ≡ e → (share b a ≡ 0) ⊎ ((bare a ≡ b) × (share b a ≡ nodes_by (bare a) a))
share_by b a true e =
    let same = only_equal_trees_tie (bare a) b ((Equal-is (tree_cmp (bare a) b)).0 e) in
    inr (same, ap (λ (c : Bool). cond c (nodes_by b a) 0) e ∙ ap (λ (c : Tree). nodes_by c a) (sym same))
share_by b a false e = inl (ap (λ (c : Bool). cond c (nodes_by b a) 0) e)

share_is : (b a : Tree) → (share b a ≡ 0) ⊎ ((bare a ≡ b) × (share b a ≡ nodes_by (bare a) a))
share_is b a = share_by b a (eq_by_cmp tree_cmp (bare a) b) refl

no_share : (a : Tree) (bs : List Tree) → (Contains bs (bare a) → ⊥) → sum_by (λ b. share b a) bs ≡ 0
no_share a [] out = refl
no_share a (b ∷ bs) out =
    let both = sum_by-cons (λ c. share c a) b bs in
    let rest = no_share a bs (λ m. out (in_tail b bs (bare a) m)) in
    elim (share_is b a) [
      | inl none ↦ omega (arith, both, rest, none)
      | inr some ↦ absurd (out (subst (λ (c : Tree). Contains (b ∷ bs) c) (sym some.0) (in_head b bs)))
    ]

one_share : (a : Tree) (bs : List Tree) → AreApart bs → sum_by (λ b. share b a) bs ≤ nodes_by (bare a) a
one_share a [] apart = omega arith
one_share a (b ∷ bs) apart =
    let both = sum_by-cons (λ c. share c a) b bs in
    elim (share_is b a) [
      | inl none ↦ let rest = one_share a bs apart.1 in omega (arith, both, rest, none)
      | inr some ↦
          let rest = no_share a bs (λ m. apart.0 (subst (λ (c : Tree). Contains bs c) some.0 m)) in
          let here = some.1 in
          omega (arith, both, rest, here)
    ]

-- one axiom more, over all groups
next_shares : (a : Tree) (axioms bs : List Tree) → sum_by (λ b. sum_by (share b) (a ∷ axioms)) bs ≡ sum_by (λ b. share b a) bs + sum_by (λ b. sum_by (share b) axioms) bs
next_shares a axioms [] = refl
next_shares a axioms (b ∷ bs) =
    let all = sum_by-cons (λ c. sum_by (share c) (a ∷ axioms)) b bs in
    let first = sum_by-cons (λ c. share c a) b bs in
    let others = sum_by-cons (λ c. sum_by (share c) axioms) b bs in
    let here = sum_by-cons (share b) a axioms in
    let rest = next_shares a axioms bs in
    omega (arith, all, first, others, here, rest)

no_shares : (bs : List Tree) → sum_by (λ b. sum_by (share b) []) bs ≡ 0
no_shares [] = refl
no_shares (b ∷ bs) = let first = sum_by-cons (λ c. sum_by (share c) []) b bs in omega (arith, first, no_shares bs)

all_shares : (axioms bs : List Tree) → AreApart bs → sum_by (λ b. sum_by (share b) axioms) bs ≤ 4 * sum_by weight axioms
all_shares [] bs apart = let none = no_shares bs in omega (arith, none)
all_shares (a ∷ axioms) bs apart =
    let next = next_shares a axioms bs in
    let one = one_share a bs apart in
    let both = sum_by-cons weight a axioms in
    omega (arith, next, one, both, axiom_within a, all_shares axioms bs apart)

own_within : (axioms : List Tree) → sum_by (λ b. own_nodes (statement_of b)) (map bare axioms) ≤ 3 * sum_by weight axioms
own_within [] = omega arith
own_within (a ∷ axioms) =
    let first = sum_by-cons (λ b. own_nodes (statement_of b)) (bare a) (map bare axioms) in
    let both = sum_by-cons weight a axioms in
    let same = ap own_nodes (bare_statement a) in
    omega (arith, first, both, same, statement_within a, own_within axioms)

axioms_within : (axioms : List Tree) → group_nodes (groups_of axioms) ≤ 7 * sum_by weight axioms
axioms_within axioms =
    let all = groups_within axioms (bare_axioms axioms) in
    let once = ascending_within tree_cmp (λ b. own_nodes (statement_of b)) (map bare axioms) in
    let shared = all_shares axioms (bare_axioms axioms) (ascending_apart tree_cmp trees_total (map bare axioms)) in
    omega (arith, all, once, shared, own_within axioms)

-- Labels, and all together.

mutual
  labels_within : (t : Tree) → length (labels_in t) ≤ weight t
  labels_within (leaf t (atom.Iri iri)) = omega arith
  labels_within (leaf t (atom.Label label)) = omega arith
  labels_within (leaf t (atom.Literal literal)) = omega arith
  labels_within (leaf t (atom.Number n)) = omega arith
  labels_within (node t ks) = let h = all_labels_within ks in omega (arith, h)

  all_labels_within : (ks : Kids) → length (all_labels_in ks) ≤ sum_weight ks
  all_labels_within no_kids = omega arith
  all_labels_within (kid t ks) =
      let both = length-append (labels_in t) (all_labels_in ks) in
      omega (arith, both, labels_within t, all_labels_within ks)

list_labels_within : (ts : List Tree) → length (flat_map labels_in ts) ≤ sum_by weight ts
list_labels_within ts =
    let each = length-flat_map labels_in ts in
    let h = sum_by-le-sum_by (λ t. length (labels_in t)) weight ts labels_within in
    omega (arith, each, h)

header_within : (name : Option OntologyName) → header_nodes name ≤ 1
header_within None = omega arith
header_within (Some n) = omega arith

-- An ontology in canonical form that is not too heavy has few nodes and labels.
pub few_labels : (o : Ontology) → ontology_weight o ≤ heaviest → canonical_list o.annotations ≡ o.annotations → canonical_list o.axioms ≡ o.axioms → made_nodes o + length (labels_of o) ≤ 9 * 10 ^ 18
few_labels o light annotations axioms =
    let same_annotations = ap (λ (ts : List Tree). sum_by weight ts) annotations in
    let same_axioms = ap (λ (ts : List Tree). sum_by weight ts) axioms in
    let header = header_within o.head.name in
    let notes = header_notes_within o.annotations in
    let groups = axioms_within o.axioms in
    let labels = list_labels_within (o.annotations ++ o.axioms) in
    let both = sum_by-append weight o.annotations o.axioms in
    omega (arith, light, same_annotations, same_axioms, header, notes, groups, labels, both)
