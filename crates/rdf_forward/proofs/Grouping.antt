-- Axioms that are in order come group by group.
use Rattle.std.proofs.Common.{◌≡◌, ◌≢◌, Bool, true, false, cond, List, [], ◌∷◌, ◌++◌, inl, inr, refl, sym, ap, ◌∙◌, subst}
use Rattle.std.specs.Prelude.{Contains, map}
use Rattle.std.specs.declared.cmp.Ordering.{Ordering}
use Rattle.std.specs.declared.cmp.Ordering.TheVariants.{Less, Equal, Greater}
use Rattle.std.specs.List.{AllByRecursion, filter}
use Rattle.std.specs.Ordering.{eq_by_cmp, is_eq, is_lt, ordering_reverse}
use Rattle.std.proofs.lemmas.Cmp.{tied_itself}
use Rattle.std.proofs.lemmas.List.{append-nil, map-append}
use Rattle.std.proofs.lemmas.List.Elements.{Contains-append_cases, Contains-append_right, filter-append}
use Rattle.owl_list.proofs.AscendingLaws.{all_ascending, all_in, all_later, all_map, ascending_ascends, ascending_holds, ascending_is, ascends, from_map, in_cases, in_head, in_tail}
use Rattle.owl_tree.specs.Order.{tree_cmp}
use Rattle.owl_tree.specs.OrderLaws.{only_equal_trees_tie, trees_total}
use Rattle.owl_tree.specs.Trees.{Tree, leaf, node, no_kids, kid}
use Rattle.rdf_mapping.specs.Drawing.{statement_of}
use Rattle.rdf_mapping.specs.Notes.{Notes}
use Rattle.rdf_mapping.specs.Graphs.{Group, axiom_notes, bare, bare_axioms, group_of, groups_of, sets_of}
use Rattle.rdf_forward.specs.BareOrder.{AreOrdered}

-- filters

module _ {X : Type 0} (p : X → Bool) where
  filter_all : (xs : List X) → AllByRecursion (λ x. p x ≡ true) xs → filter p xs ≡ xs
  filter_all [] h = refl
  filter_all (x ∷ xs) h = ap (λ b. cond b (x ∷ filter p xs) (filter p xs)) h.0 ∙ ap (λ ys. x ∷ ys) (filter_all xs h.1)

  filter_none : (xs : List X) → AllByRecursion (λ x. p x ≡ false) xs → filter p xs ≡ []
  filter_none [] h = refl
  filter_none (x ∷ xs) h = ap (λ b. cond b (x ∷ filter p xs) (filter p xs)) h.0 ∙ filter_none xs h.1

pub map_alike : {X Y : Type 0} (f g : X → Y) (xs : List X) → ((x : X) → Contains xs x → f x ≡ g x) → map f xs ≡ map g xs
map_alike f g [] h = refl
map_alike f g (x ∷ xs) h =
    let first = h x (in_head x xs) in
    let rest = map_alike f g xs (λ y m. h y (in_tail x xs y m)) in
    cc

pub all_behind : {X : Type 0} (P : X → Type 0) (xs ys : List X) → AllByRecursion P (xs ++ ys) → AllByRecursion P ys
all_behind P [] ys h = h
all_behind P (x ∷ xs) ys h = all_behind P xs ys h.1

-- one tree before another

below_not_same : (t u : Tree) → tree_cmp t u ≡ Less → eq_by_cmp tree_cmp u t ≡ false
below_not_same t u e = ap is_eq (trees_total.antisymm u t ∙ ap ordering_reverse e)

same_told : (t u : Tree) → t ≡ u → eq_by_cmp tree_cmp t u ≡ true
same_told t u e = ap is_eq (subst (λ (v : Tree). tree_cmp t v ≡ Equal) e (tied_itself trees_total t))

not_behind : (o : Ordering) (t u : Tree) → tree_cmp u t ≡ o → is_lt o ≡ false → (t ≡ u → ⊥) → tree_cmp t u ≡ Less
not_behind Less t u e h apart = cc
not_behind Equal t u e h apart = absurd (apart (sym (only_equal_trees_tie u t e)))
not_behind Greater t u e h apart = trees_total.antisymm t u ∙ ap ordering_reverse e

further : (o : Ordering) (t u v : Tree) → tree_cmp v u ≡ o → is_lt o ≡ false → tree_cmp t u ≡ Less → tree_cmp t v ≡ Less
further Less t u v e h below = cc
further Equal t u v e h below = subst (λ (w : Tree). tree_cmp t w ≡ Less) (sym (only_equal_trees_tie v u e)) below
further Greater t u v e h below = trees_total.trans t u v below (trees_total.antisymm u v ∙ ap ordering_reverse e)

abbrev pub group_with : Tree → List Notes → Group
group_with b sets = record { statement = statement_of b; sets = sets }

-- Some axioms that are one without their annotations, and others that are behind it.
module _ (x : Tree) (same others : List Tree) (alike : AllByRecursion (λ c. bare c ≡ bare x) same) (behind : AllByRecursion (λ c. tree_cmp (bare x) (bare c) ≡ Less) others) where
  whole : List Tree
  whole = x ∷ (same ++ others)

  -- they are the first, and those behind it go without them

  above : AllByRecursion (λ b. tree_cmp (bare x) b ≡ Less) (bare_axioms others)
  above = all_ascending (λ b. tree_cmp (bare x) b ≡ Less) tree_cmp (map bare others) (all_map bare (λ b. tree_cmp (bare x) b ≡ Less) others behind)

  bares_hold : (z : Tree) → Contains (bare x ∷ bare_axioms others) z → Contains (map bare whole) z
  unfolding whole
  bares_hold z m =
      elim (in_cases (bare x) (bare_axioms others) z m) [
        | inl e ↦ subst (Contains (map bare whole)) e (in_head (bare x) (map bare (same ++ others)))
        | inr n ↦
            let k = (ascending_holds tree_cmp trees_total only_equal_trees_tie (map bare others) z).0 n in
            in_tail (bare x) (map bare (same ++ others)) z (subst (λ (ys : List Tree). Contains ys z) (sym (map-append bare same others)) (Contains-append_right (map bare same) (map bare others) z k))
      ]

  bares_back : (z : Tree) → Contains (map bare whole) z → Contains (bare x ∷ bare_axioms others) z
  unfolding whole
  bares_back z m =
      elim (in_cases (bare x) (map bare (same ++ others)) z m) [
        | inl e ↦ subst (Contains (bare x ∷ bare_axioms others)) e (in_head (bare x) (bare_axioms others))
        | inr n ↦
            elim (Contains-append_cases (map bare same) (map bare others) z (subst (λ (ys : List Tree). Contains ys z) (map-append bare same others) n)) [
              | inl k ↦
                  let v = from_map bare same z k in
                  let is : bare x ≡ z = sym (all_in (λ c. bare c ≡ bare x) same v.element alike v.inside) ∙ v.value in
                  subst (Contains (bare x ∷ bare_axioms others)) is (in_head (bare x) (bare_axioms others))
              | inr k ↦ in_tail (bare x) (bare_axioms others) z ((ascending_holds tree_cmp trees_total only_equal_trees_tie (map bare others) z).1 k)
            ]
      ]

  first_bare : bare_axioms whole ≡ bare x ∷ bare_axioms others
  first_bare =
      let up = ascends tree_cmp (bare x) (bare_axioms others) above (ascending_ascends tree_cmp trees_total (map bare others)) in
      sym (ascending_is tree_cmp trees_total only_equal_trees_tie (map bare whole) (bare x ∷ bare_axioms others) up (λ z. (bares_hold z, bares_back z)))

  first_sets : sets_of (bare x) whole ≡ map axiom_notes (x ∷ same)
  unfolding whole
  first_sets =
      let test = λ (a : Tree). eq_by_cmp tree_cmp (bare a) (bare x) in
      let front = filter_all test (x ∷ same) (same_told (bare x) (bare x) refl, all_later (λ c. bare c ≡ bare x) (λ c. test c ≡ true) (λ c e. same_told (bare c) (bare x) e) same alike) in
      let back = filter_none test others (all_later (λ c. tree_cmp (bare x) (bare c) ≡ Less) (λ c. test c ≡ false) (λ c e. below_not_same (bare x) (bare c) e) others behind) in
      ap (map axiom_notes) (filter-append test (x ∷ same) others ∙ ap (λ (ys : List Tree). ys ++ filter test others) front ∙ ap (λ (ys : List Tree). (x ∷ same) ++ ys) back ∙ append-nil (x ∷ same))

  later_sets : (b : Tree) → Contains (bare_axioms others) b → sets_of b whole ≡ sets_of b others
  unfolding whole
  later_sets b m =
      let test = λ (a : Tree). eq_by_cmp tree_cmp (bare a) b in
      let up = all_in (λ c. tree_cmp (bare x) c ≡ Less) (bare_axioms others) b above m in
      let apart = ap is_eq up in
      let front = filter_none test (x ∷ same) (apart, all_later (λ c. bare c ≡ bare x) (λ c. test c ≡ false) (λ c e. ap (λ (t : Tree). eq_by_cmp tree_cmp t b) e ∙ apart) same alike) in
      ap (map axiom_notes) (filter-append test (x ∷ same) others ∙ ap (λ (ys : List Tree). ys ++ filter test others) front)

  pub first_group : groups_of (x ∷ (same ++ others)) ≡ group_with (bare x) (map axiom_notes (x ∷ same)) ∷ groups_of others
  unfolding whole
  first_group =
      let rest = map_alike (group_of whole) (group_of others) (bare_axioms others) (λ b m. ap (group_with b) (later_sets b m)) in
      ap (map (group_of whole)) first_bare
      ∙ ap (λ (gs : List Group). group_of whole (bare x) ∷ gs) rest
      ∙ ap (λ (ns : List Notes). group_with (bare x) ns ∷ groups_of others) first_sets

stated_bare : (x : Tree) → statement_of (bare x) ≡ statement_of x
stated_bare (leaf t a) = refl
stated_bare (node t no_kids) = refl
stated_bare (node t (kid ns ks)) = refl

-- axioms that are in order, of which the next one behind the first group is another
abbrev pub IsOther : Tree → List Tree → Type 0
IsOther x [] = Unit {0}
IsOther x (y ∷ ys) = bare x ≢ bare y

others_behind : (x : Tree) (same others : List Tree) → AllByRecursion (λ b. is_lt (tree_cmp (bare b) (bare x)) ≡ false) (same ++ others) → AreOrdered others → IsOther x others → AllByRecursion (λ c. tree_cmp (bare x) (bare c) ≡ Less) others
others_behind x same [] front ordered other = tt
others_behind x same (y ∷ ys) front ordered other =
    let up = all_behind (λ b. is_lt (tree_cmp (bare b) (bare x)) ≡ false) same (y ∷ ys) front in
    let next = not_behind (tree_cmp (bare y) (bare x)) (bare x) (bare y) refl up.0 other in
    (next, all_later (λ b. is_lt (tree_cmp (bare b) (bare y)) ≡ false) (λ c. tree_cmp (bare x) (bare c) ≡ Less) (λ c e. further (tree_cmp (bare c) (bare y)) (bare x) (bare y) (bare c) refl e next) ys ordered.0)

pub ordered_behind : (xs ys : List Tree) → AreOrdered (xs ++ ys) → AreOrdered ys
ordered_behind [] ys h = h
ordered_behind (x ∷ xs) ys h = ordered_behind xs ys h.1

pub groups_begin : (x : Tree) (same others : List Tree) → AreOrdered (x ∷ (same ++ others)) → AllByRecursion (λ c. bare c ≡ bare x) same → IsOther x others → groups_of (x ∷ (same ++ others)) ≡ group_with x (map axiom_notes (x ∷ same)) ∷ groups_of others
groups_begin x same others ordered alike other =
    first_group x same others alike (others_behind x same others ordered.0 (ordered_behind same others ordered.1) other)
    ∙ ap (λ st. record { statement = st; sets = map axiom_notes (x ∷ same) } ∷ groups_of others) (stated_bare x)
