-- Trees that are made of steps are those of which the steps are, and a fault of a tree on the way is one of a tree at the end.
use Rattle.std.proofs.Common.{◌≡◌, ◌⊎◌, ◌+◌, ◌-◌, ◌<◌, ◌≤◌, ℕ, zero, suc, List, [], ◌∷◌, ◌++◌, length, inl, inr, refl, sym, ap, ◌∙◌, subst, arith, append_assoc, drop, take, get_or, length-append}
use Rattle.std.specs.Prelude.{Contains, map}
use Rattle.std.proofs.lemmas.List.{append-nil, take-append-drop, map-append, take_more, take_all}
use Rattle.std.proofs.Math.Seq.{drop-append_seam, take-append_seam}
use Rattle.owl_arena.specs.Shared.{deepest}
use Rattle.owl_list.proofs.AscendingLaws.{in_cases, in_head, in_map, in_none, in_tail}
use Rattle.owl_tree.specs.declared.tag.Tag.{Tag}
use Rattle.owl_tree.specs.Canonical.{arranged, canonical}
use Rattle.owl_tree.specs.Equivalence.{HoldsOfSome}
use Rattle.owl_tree.proofs.CanonicalLaws.{arranged_holds, canonicals_kids_of}
use Rattle.owl_tree.specs.Rows.{row_of, set_start}
use Rattle.owl_tree.proofs.TreeLaws.{kids_of_list_of, list_of_kids_of}
use Rattle.owl_tree.specs.Trees.{Tree, Kids, leaf, node, no_kids, kid, kids_of, list_of, most_depth, weight, sum_weight}
use Rattle.tree_stores.specs.declared.fault.TreeFault.{TreeFault}
use Rattle.tree_stores.specs.declared.fault.TreeFault.TheVariants.{TooDeep, TooHeavy, Memory}
use Rattle.tree_stores.specs.Stores.{IsDeep, IsHeavy, IsTreeFault, Keeps, StandFor}
use Rattle.tree_stores.proofs.StoreLaws.{one_more_stands, stand_still}
use Rattle.man_resolve.specs.declared.step.Step.{Step}
use Rattle.man_resolve.specs.Building.{Build, a_leaf, a_node, all_built, building, building_all, built, seen}
use Rattle.man_resolve.specs.Making.{IsFaultAmong, front, made, stepped, trees_of}

-- ---- the trees of the steps

made_both : (cs bs : List Build) (ts : List Tree) → made (cs ++ bs) ts ≡ made bs (made cs ts)
made_both [] bs ts = refl
made_both (c ∷ cs) bs ts = made_both cs bs (stepped c ts)

node_made : (tag : Tag) (ts ks : List Tree) → stepped (a_node tag (length ks)) (ts ++ ks) ≡ ts ++ node tag (kids_of ks) ∷ []
node_made tag ts ks =
    let n : length (ts ++ ks) - length ks ≡ length ts = let m = length-append ts ks in omega (arith, m) in
    ap (λ m. take m (ts ++ ks) ++ node tag (kids_of (drop m (ts ++ ks))) ∷ []) n
    ∙ ap (λ us. us ++ node tag (kids_of (drop (length ts) (ts ++ ks))) ∷ []) (take-append_seam ts ks)
    ∙ ap (λ us. ts ++ node tag (kids_of us) ∷ []) (drop-append_seam ts ks)

mutual
  tree_made : (t : Tree) (ts : List Tree) → made (building t) ts ≡ ts ++ t ∷ []
  tree_made (leaf t a) ts = refl
  tree_made (node t ks) ts =
      made_both (building_all ks) (a_node t (length (list_of ks)) ∷ []) ts
      ∙ ap (stepped (a_node t (length (list_of ks)))) (kids_made ks ts)
      ∙ node_made t ts (list_of ks)
      ∙ ap (λ ls. ts ++ node t ls ∷ []) (kids_of_list_of ks)

  kids_made : (ks : Kids) (ts : List Tree) → made (building_all ks) ts ≡ ts ++ list_of ks
  kids_made no_kids ts = sym (append-nil ts)
  kids_made (kid t ks) ts =
      made_both (building t) (building_all ks) ts
      ∙ ap (made (building_all ks)) (tree_made t ts)
      ∙ kids_made ks (ts ++ t ∷ [])
      ∙ append_assoc ts (t ∷ []) (list_of ks)

pub all_made : (ts : List Tree) → made (all_built ts) [] ≡ ts
all_made ts = kids_made (kids_of ts) [] ∙ list_of_kids_of ts

-- ---- numbers

module _ {N : Type 0} (Stands : Tree → N → Type 0) where
  pub as_many : (ts : List Tree) (ns : List N) → StandFor Stands ts ns → length ts ≡ length ns
  as_many [] [] h = refl
  as_many [] (n ∷ ns) h = absurd h
  as_many (t ∷ ts) [] h = absurd h
  as_many (t ∷ ts) (n ∷ ns) h = ap suc (as_many ts ns h.1)

  stand_before : (k : ℕ) (ts : List Tree) (ns : List N) → StandFor Stands ts ns → StandFor Stands (take k ts) (take k ns)
  stand_before zero ts ns h = tt
  stand_before (suc k) [] [] h = tt
  stand_before (suc k) [] (n ∷ ns) h = absurd h
  stand_before (suc k) (t ∷ ts) [] h = absurd h
  stand_before (suc k) (t ∷ ts) (n ∷ ns) h = (h.0, stand_before k ts ns h.1)

  pub stand_behind : (k : ℕ) (ts : List Tree) (ns : List N) → StandFor Stands ts ns → StandFor Stands (drop k ts) (drop k ns)
  stand_behind zero ts ns h = h
  stand_behind (suc k) [] [] h = tt
  stand_behind (suc k) [] (n ∷ ns) h = absurd h
  stand_behind (suc k) (t ∷ ts) [] h = absurd h
  stand_behind (suc k) (t ∷ ts) (n ∷ ns) h = stand_behind k ts ns h.1

module _ {N : Type 0} (Old New : Tree → N → Type 0) (kept : Keeps Old New) (ts : List Tree) (ns : List N) (h : StandFor Old ts ns) where
  pub leaf_stands : (n : N) (t : Tree) → New t n → StandFor New (ts ++ t ∷ []) (ns ++ n ∷ [])
  leaf_stands n t one = one_more_stands New ts ns t n (stand_still Old New kept ts ns h) one

  pub node_stands : (tag : Tag) (count at : ℕ) (left kids : List N) (n : N) → at ≡ length ns - count → left ≡ take at ns → kids ≡ drop at ns →
      ((us : List Tree) → StandFor Old us kids → New (node tag (kids_of us)) n) → StandFor New (stepped (a_node tag count) ts) (left ++ n ∷ [])
  node_stands tag count at left kids n e f g held =
      let same : at ≡ front count ts = let m = as_many Old ts ns h in omega (arith, m, e) in
      let us = take (front count ts) ts in
      let vs = drop (front count ts) ts in
      let before : StandFor Old us left = subst (λ ms. StandFor Old us ms) (ap (λ k. take k ns) (sym same) ∙ sym f) (stand_before Old (front count ts) ts ns h) in
      let behind : StandFor Old vs kids = subst (λ ms. StandFor Old vs ms) (ap (λ k. drop k ns) (sym same) ∙ sym g) (stand_behind Old (front count ts) ts ns h) in
      one_more_stands New us left (node tag (kids_of vs)) n (stand_still Old New kept us left before) (held vs behind)

-- ---- faults

some_in_front : (P : Tree → Type 0) (ts us : List Tree) → HoldsOfSome P ts → HoldsOfSome P (ts ++ us)
some_in_front P [] us h = absurd h
some_in_front P (t ∷ ts) us (inl h) = inl h
some_in_front P (t ∷ ts) us (inr h) = inr (some_in_front P ts us h)

some_behind : (P : Tree → Type 0) (ts us : List Tree) → HoldsOfSome P us → HoldsOfSome P (ts ++ us)
some_behind P [] us h = h
some_behind P (t ∷ ts) us h = inr (some_behind P ts us h)

some_of_both : (P : Tree → Type 0) (ts us : List Tree) → HoldsOfSome P (ts ++ us) → HoldsOfSome P ts ⊎ HoldsOfSome P us
some_of_both P [] us h = inr h
some_of_both P (t ∷ ts) us (inl h) = inl (inl h)
some_of_both P (t ∷ ts) us (inr h) = elim (some_of_both P ts us h) [ inl k ↦ inl (inr k) | inr k ↦ inr k ]

-- what is so of a kid is so of its node
abbrev GoesUp : (Tree → Type 0) → Type 0
GoesUp P = (tag : Tag) (ks : List Tree) → HoldsOfSome P ks → P (node tag (kids_of ks))

module _ (P : Tree → Type 0) (up : GoesUp P) where
  still_some : (b : Build) (ts : List Tree) → HoldsOfSome P ts → HoldsOfSome P (stepped b ts)
  still_some (a_leaf t a) ts h = some_in_front P ts (leaf t a ∷ []) h
  still_some (a_node tag count) ts h =
      let k = front count ts in
      elim (some_of_both P (take k ts) (drop k ts) (subst (HoldsOfSome P) (sym (take-append-drop k ts)) h)) [
        | inl before ↦ some_in_front P (take k ts) (node tag (kids_of (drop k ts)) ∷ []) before
        | inr kids ↦ some_behind P (take k ts) (node tag (kids_of (drop k ts)) ∷ []) (inl (up tag (drop k ts) kids))
      ]

  at_end : (bs : List Build) (ts : List Tree) → HoldsOfSome P ts → HoldsOfSome P (made bs ts)
  at_end [] ts h = h
  at_end (b ∷ bs) ts h = at_end bs (stepped b ts) (still_some b ts h)

some_deep : (ts : List Tree) → HoldsOfSome IsDeep ts → deepest < most_depth (kids_of ts)
some_deep [] h = absurd h
some_deep (t ∷ ts) (inl h) = omega arith
some_deep (t ∷ ts) (inr h) = let more = some_deep ts h in omega arith

deep_up : GoesUp IsDeep
deep_up tag ks h = let deep = some_deep ks h in omega arith

pub there : (P : Tree → Type 0) (ts : List Tree) → HoldsOfSome P ts → (t : Tree) × Contains ts t × P t
there P [] h = absurd h
there P (t ∷ ts) (inl h) = (t, in_head t ts, h)
there P (t ∷ ts) (inr h) = let more = there P ts h in (more.0, in_tail t ts more.0 more.1, more.2)

sum_of_kids : (ts : List Tree) (t : Tree) → Contains ts t → weight t ≤ sum_weight (kids_of ts)
sum_of_kids [] t m = absurd (in_none t m)
sum_of_kids (u ∷ us) t m =
    elim (in_cases u us t m) [
      | inl e ↦ let same = ap weight e in omega arith
      | inr n ↦ let rest = sum_of_kids us t n in omega arith
    ]

heavy_up : GoesUp IsHeavy
heavy_up tag ks h =
    let some = there IsHeavy ks h in
    let start = set_start (row_of tag) in
    let among = (arranged_holds start (map canonical ks) (canonical some.0)).1 (in_map canonical ks some.0 some.1) in
    let sum = sum_of_kids (arranged start (map canonical ks)) (canonical some.0) among in
    let same = ap (λ us. sum_weight (kids_of (arranged start us))) (canonicals_kids_of ks) in
    let heavy = some.2 in
    omega (arith, sum, same, heavy)

fault_at_end : {H : Type 0} (bs : List Build) (ts : List Tree) (f : TreeFault H) → IsFaultAmong ts f → IsFaultAmong (made bs ts) f
fault_at_end bs ts TooDeep h = at_end IsDeep deep_up bs ts h
fault_at_end bs ts (TooHeavy _) h = at_end IsHeavy heavy_up bs ts h
fault_at_end bs ts Memory h = tt

last_fault : {H : Type 0} (ts : List Tree) (t : Tree) (f : TreeFault H) → IsTreeFault t f → IsFaultAmong (ts ++ t ∷ []) f
last_fault ts t TooDeep h = some_behind IsDeep ts (t ∷ []) (inl h)
last_fault ts t (TooHeavy _) h = some_behind IsHeavy ts (t ∷ []) (inl h)
last_fault ts t Memory h = tt

pub node_fault : {N H : Type 0} (Old : Tree → N → Type 0) (ts : List Tree) (ns kids : List N) (tag : Tag) (count at : ℕ) (f : TreeFault H) → at ≡ length ns - count → kids ≡ drop at ns → StandFor Old ts ns →
    ((us : List Tree) → StandFor Old us kids → IsTreeFault (node tag (kids_of us)) f) → IsFaultAmong (stepped (a_node tag count) ts) f
node_fault Old ts ns kids tag count at f e g h fault =
    let same : at ≡ front count ts = let m = as_many Old ts ns h in omega (arith, m, e) in
    let vs = drop (front count ts) ts in
    let behind : StandFor Old vs kids = subst (λ ms. StandFor Old vs ms) (ap (λ k. drop k ns) (sym same) ∙ sym g) (stand_behind Old (front count ts) ts ns h) in
    last_fault (take (front count ts) ts) (node tag (kids_of vs)) f (fault vs behind)

-- ---- steps one by one

module _ (steps : List Step) (i : ℕ) (step : Step) (within : i < length steps) (is : step ≡ get_or steps i step) where
  pub step_made : made (built (take (i + 1) steps)) [] ≡ stepped (seen step) (made (built (take i steps)) [])
  step_made =
      let more : take (i + 1) steps ≡ take i steps ++ step ∷ [] = take_more steps i step within ∙ ap (λ s. take i steps ++ s ∷ []) (sym is) in
      ap (λ bs. made bs []) (ap built more ∙ map-append seen (take i steps) (step ∷ [])) ∙ made_both (built (take i steps)) (seen step ∷ []) []

  pub step_fault : {H : Type 0} (f : TreeFault H) → IsFaultAmong (stepped (seen step) (made (built (take i steps)) [])) f → IsFaultAmong (trees_of steps) f
  step_fault f h =
      let split : built steps ≡ built (take (i + 1) steps) ++ built (drop (i + 1) steps) = ap built (sym (take-append-drop (i + 1) steps)) ∙ map-append seen (take (i + 1) steps) (drop (i + 1) steps) in
      let end : made (built (drop (i + 1) steps)) (made (built (take (i + 1) steps)) []) ≡ trees_of steps =
      sym (made_both (built (take (i + 1) steps)) (built (drop (i + 1) steps)) []) ∙ ap (λ bs. made bs []) (sym split) in
      subst (λ us. IsFaultAmong us f) end (fault_at_end (built (drop (i + 1) steps)) (made (built (take (i + 1) steps)) []) f (subst (λ us. IsFaultAmong us f) (sym step_made) h))

pub steps_made : (steps : List Step) (i : ℕ) → length steps ≤ i → made (built (take i steps)) [] ≡ trees_of steps
steps_made steps i h = ap (λ us. made (built us) []) (take_all i steps h)

pub fault_in_front : {H : Type 0} (ts us : List Tree) (f : TreeFault H) → IsFaultAmong ts f → IsFaultAmong (ts ++ us) f
fault_in_front ts us TooDeep h = some_in_front IsDeep ts us h
fault_in_front ts us (TooHeavy _) h = some_in_front IsHeavy ts us h
fault_in_front ts us Memory h = tt

pub fault_behind : {H : Type 0} (ts us : List Tree) (f : TreeFault H) → IsFaultAmong us f → IsFaultAmong (ts ++ us) f
fault_behind ts us TooDeep h = some_behind IsDeep ts us h
fault_behind ts us (TooHeavy _) h = some_behind IsHeavy ts us h
fault_behind ts us Memory h = tt
