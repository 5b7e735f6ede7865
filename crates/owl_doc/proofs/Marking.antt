-- Marks that are set.
use Rattle.std.proofs.Common.{◌≡◌, ◌<◌, ◌≤◌, ◌⊎◌, inl, inr, ℕ, ◌+◌, suc, zero, Bool, true, List, [], ◌∷◌, ◌++◌, length, get_or, take, refl, sym, ap, ◌∙◌, subst, arith}
use Rattle.std.specs.Prelude.{◌↔◌, Contains, slice_set}
use Rattle.std.specs.List.{AllByRecursion}
use Rattle.std.proofs.lemmas.List.{take_more}
use Rattle.std.proofs.lemmas.List.Elements.{Contains-append_cases, Contains-append_left, Contains-append_right}
use Rattle.owl_doc.specs.Counts.{subtrees, subtrees_of}
use Rattle.owl_arena.specs.Held.{tree_at, trees_at}
use Rattle.owl_doc.specs.Marks.{AddsParts, HasMark, IsClosedFrom, IsMarked}
use Rattle.owl_list.proofs.AscendingLaws.{all_from, all_in, all_later, all_map, in_cases, in_head, in_map, in_none, in_tail}
use Rattle.owl_tree.specs.Trees.{Tree, Kids, leaf, node, no_kids, kid, kids_in, kids_of, list_of}

pub set_marks : (marks : List Bool) (id place : ℕ) → id < length marks → IsMarked (slice_set marks id true) place ↔ (IsMarked marks place ⊎ (id ≡ place))
set_marks [] id place h = absurd (omega arith)
set_marks (m ∷ ms) zero zero h = (λ k. inr refl, λ k. refl)
set_marks (m ∷ ms) zero (suc place) h = (λ k. inl k, λ k. elim k [ inl k ↦ k | inr e ↦ absurd (omega arith) ])
set_marks (m ∷ ms) (suc id) zero h = (λ k. inl k, λ k. elim k [ inl k ↦ k | inr e ↦ absurd (omega arith) ])
set_marks (m ∷ ms) (suc id) (suc place) h =
    let rest = set_marks ms id place (omega arith) in (
      λ k. elim (rest.0 k) [ inl n ↦ inl n | inr e ↦ inr (ap suc e) ],
      λ k. rest.1 (elim k [ inl n ↦ inl n | inr e ↦ inr (omega arith) ]),
    )

-- with one more number there is one more mark
pub one_more : (marks next : List Bool) (ids : List ℕ) (index id place : ℕ) → index < length ids → id ≡ get_or ids index id → IsMarked next place ↔ (IsMarked marks place ⊎ (id ≡ place)) → (before : Type 0) → IsMarked marks place ↔ (before ⊎ Contains (take index ids) place) → IsMarked next place ↔ (before ⊎ Contains (take (index + 1) ids) place)
one_more marks next ids index id place h e set before known =
    let more : take (index + 1) ids ≡ take index ids ++ id ∷ [] = take_more ids index id h ∙ ap (λ x. take index ids ++ x ∷ []) (sym e) in
    let there : Contains (take index ids ++ id ∷ []) place → Contains (take (index + 1) ids) place = λ k. subst (λ (xs : List ℕ). Contains xs place) (sym more) k in
    let back : Contains (take (index + 1) ids) place → Contains (take index ids ++ id ∷ []) place = λ k. subst (λ (xs : List ℕ). Contains xs place) more k in (
      λ k. elim (set.0 k) [
        | inl m ↦ elim (known.0 m) [ inl b ↦ inl b | inr n ↦ inr (there (Contains-append_left (take index ids) (id ∷ []) place n)) ]
        | inr f ↦ inr (there (Contains-append_right (take index ids) (id ∷ []) place (subst (λ (x : ℕ). Contains (id ∷ []) x) f (in_head id []))))
      ],
      λ k. set.1 (elim k [
        | inl b ↦ inl (known.1 (inl b))
        | inr n ↦ elim (Contains-append_cases (take index ids) (id ∷ []) place (back n)) [
          | inl m ↦ inl (known.1 (inr m))
          | inr m ↦ elim (in_cases id [] place m) [ inl f ↦ inr f | inr o ↦ absurd (in_none place o) ]
        ]
      ]),
    )

-- a tree is a part of itself
self_part : (t : Tree) → Contains (subtrees t) t
self_part (leaf t a) = in_head (leaf t a) []
self_part (node t ks) = in_head (node t ks) (subtrees_of ks)

pub kids_are_parts : (ks : Kids) (t : Tree) → Contains (list_of ks) t → Contains (subtrees_of ks) t
kids_are_parts no_kids t m = absurd (in_none t m)
kids_are_parts (kid u ks) t m =
    elim (in_cases u (list_of ks) t m) [
      | inl e ↦ Contains-append_left (subtrees u) (subtrees_of ks) t (subst (λ (v : Tree). Contains (subtrees u) v) e (self_part u))
      | inr n ↦ Contains-append_right (subtrees u) (subtrees_of ks) t (kids_are_parts ks t n)
    ]

-- the kids of a part are parts
mutual
  parts_of_tree : (t u v : Tree) → Contains (subtrees t) u → Contains (kids_in u) v → Contains (subtrees t) v
  parts_of_tree (leaf t a) u v m n =
      elim (in_cases (leaf t a) [] u m) [
        | inl e ↦ absurd (in_none v (subst (λ (w : Tree). Contains (kids_in w) v) (sym e) n))
        | inr o ↦ absurd (in_none u o)
      ]
  parts_of_tree (node t ks) u v m n =
      elim (in_cases (node t ks) (subtrees_of ks) u m) [
        | inl e ↦ in_tail (node t ks) (subtrees_of ks) v (kids_are_parts ks v (subst (λ (w : Tree). Contains (kids_in w) v) (sym e) n))
        | inr o ↦ in_tail (node t ks) (subtrees_of ks) v (parts_of_kids ks u v o n)
      ]

  pub parts_of_kids : (ks : Kids) (u v : Tree) → Contains (subtrees_of ks) u → Contains (kids_in u) v → Contains (subtrees_of ks) v
  parts_of_kids no_kids u v m n = absurd (in_none u m)
  parts_of_kids (kid t ks) u v m n =
      elim (Contains-append_cases (subtrees t) (subtrees_of ks) u m) [
        | inl o ↦ Contains-append_left (subtrees t) (subtrees_of ks) v (parts_of_tree t u v o n)
        | inr o ↦ Contains-append_right (subtrees t) (subtrees_of ks) v (parts_of_kids ks u v o n)
      ]

pub added_twice : (ts : List Tree) (a b c : List Bool) → AddsParts ts a b → AddsParts ts b c → AddsParts ts a c
added_twice ts a b c h k = record {
  long = k.long ∙ h.long;
  kept = λ place m. k.kept place (h.kept place m);
  parts = λ roots m. k.parts roots (h.parts roots m);
}

-- what comes of the marks of kids
module _ (ts : List Tree) (old new : List Bool) (id : ℕ) (kids : List ℕ) where
  pub record MarksKids : Type 0 where
    pub within : id < length ts
    pub long : length new ≡ length old
    pub marks : (place : ℕ) → IsMarked new place ↔ (IsMarked old place ⊎ Contains kids place)
    pub trees : trees_at ts kids ≡ kids_in (tree_at ts id)
    pub below : AllByRecursion (λ kid. kid < id) kids

  pub kids_added : MarksKids → IsMarked old id → AddsParts ts old new
  kids_added h mark = record {
    long = h.long;
    kept = λ place m. (h.marks place).1 (inl m);
    parts = λ roots parts place in_arena m.
        elim ((h.marks place).0 m) [
          | inl k ↦ parts place in_arena k
          | inr k ↦
              let part = subst (λ (us : List Tree). Contains us (tree_at ts place)) h.trees (in_map (tree_at ts) kids place k) in
              parts_of_kids (kids_of roots) (tree_at ts id) (tree_at ts place) (parts id h.within mark) part
        ];
  }

  pub none_above : MarksKids → (place : ℕ) → id ≤ place → IsMarked new place → IsMarked old place
  none_above h place le m =
      elim ((h.marks place).0 m) [
        | inl k ↦ k
        | inr k ↦ let lower = all_in (λ kid. kid < id) kids place h.below k in absurd (omega arith)
      ]

  pub kids_marked : MarksKids → AllByRecursion (HasMark ts new) (kids_in (tree_at ts id))
  kids_marked h =
      let at_places : AllByRecursion (λ kid. HasMark ts new (tree_at ts kid)) kids =
      all_from (λ kid. HasMark ts new (tree_at ts kid)) kids (λ kid m.
      let lower = all_in (λ kid. kid < id) kids kid h.below m in
      let known = h.within in
      record { place = kid; within = omega arith; mark = (h.marks kid).1 (inr m); tree = refl }) in
      subst (λ (us : List Tree). AllByRecursion (HasMark ts new) us) h.trees (all_map (tree_at ts) (HasMark ts new) kids at_places)

pub still_marked : (ts : List Tree) (old new : List Bool) → AddsParts ts old new → (t : Tree) → HasMark ts old t → HasMark ts new t
still_marked ts old new h t k = record { place = k.place; within = k.within; mark = h.kept k.place k.mark; tree = k.tree }

-- one place further down
pub closed_further : (start id : ℕ) (ts : List Tree) (old new : List Bool) → start ≡ id + 1 → IsClosedFrom start ts old → AddsParts ts old new → ((place : ℕ) → id ≤ place → IsMarked new place → IsMarked old place) → (IsMarked new id → AllByRecursion (HasMark ts new) (kids_in (tree_at ts id))) → IsClosedFrom id ts new
closed_further start id ts old new e closed added above here place le within mark = by_place (apart id place le)
  where
    apart : (a b : ℕ) → a ≤ b → (a ≡ b) ⊎ (a + 1 ≤ b)
    apart zero zero h = inl refl
    apart zero (suc b) h = inr (omega arith)
    apart (suc a) zero h = absurd (omega arith)
    apart (suc a) (suc b) h = elim (apart a b (omega arith)) [ inl e ↦ inl (ap suc e) | inr k ↦ inr (omega arith) ]

    by_place : (id ≡ place) ⊎ (id + 1 ≤ place) → AllByRecursion (HasMark ts new) (kids_in (tree_at ts place))
    by_place (inl same) =
        subst (λ (p : ℕ). AllByRecursion (HasMark ts new) (kids_in (tree_at ts p))) same (here (subst (λ (p : ℕ). IsMarked new p) (sym same) mark))
    by_place (inr more) =
        all_later (HasMark ts old) (HasMark ts new) (still_marked ts old new added) (kids_in (tree_at ts place)) (closed place (omega arith) within (above place le mark))
