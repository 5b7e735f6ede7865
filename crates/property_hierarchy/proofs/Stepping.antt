-- Steps by numbers.
use Rattle.std.proofs.Common.{◌≡◌, ◌≤◌, ◌<◌, ◌+◌, ◌-◌, ◌++◌, ℕ, zero, suc, List, [], ◌∷◌, get_or, length, map, take, refl, sym, ap, ◌∙◌, subst}
use native.Mathlib.Omega.{arith}
use Rattle.std.proofs.lemmas.Grind.{flat_map-append}
use Rattle.std.proofs.lemmas.List.{map-append}
use Rattle.std.proofs.lemmas.Simd.{map-map}
use Rattle.dl_rules.specs.Logical.{operands}
use Rattle.dl_rules.specs.Properties.{Property, inverse, leads, neighbours, properties_in, steps_of, steps_over, with_inverses}
use Rattle.owl_arena.specs.Held.{tree_at, trees_at}
use Rattle.owl_breaches.proofs.MakingLaws.{two_pushed}
use Rattle.property_hierarchy.proofs.Numbering.{numbers_both}
use Rattle.owl_tree.specs.declared.tag.Tag.{Tag}
use Rattle.owl_tree.specs.declared.tag.Tag.TheVariants as tag
use Rattle.owl_tree.specs.Trees.{Tree, tag_of}
use Rattle.property_hierarchy.specs.Numbers.{inverse_number, number_of, numbered_pairs, numbers_in}
use Rattle.property_hierarchy.specs.declared.numbers.PropertyNumber.{PropertyNumber}

-- one more of them leads to the one before it, and back
pub neighbours_more : {P : Type 0} (ps : List P) (k : ℕ) (d : P) → suc k < length ps → neighbours (take (suc (suc k)) ps) ≡ neighbours (take (suc k) ps) ++ (get_or ps k d, get_or ps (suc k) d) ∷ (get_or ps (suc k) d, get_or ps k d) ∷ []
neighbours_more [] k d h = absurd (omega (arith, h))
neighbours_more (p ∷ []) k d h = absurd (omega (arith, h))
neighbours_more (p ∷ q ∷ ps) zero d h = refl
neighbours_more {P} (p ∷ q ∷ ps) (suc k) d h = ap (λ (more : List (P × P)). (p, q) ∷ (q, p) ∷ more) (neighbours_more (q ∷ ps) k d (omega (arith, h)))

one_none : {P : Type 0} (ps : List P) → neighbours (take 1 ps) ≡ []
one_none [] = refl
one_none (p ∷ ps) = refl

pub none_of_one : {P : Type 0} (ps : List P) (steps : List (P × P)) → steps ≡ [] → steps ≡ neighbours (take 1 ps)
none_of_one ps steps e = e ∙ sym (one_none ps)

neighbours_at : {P : Type 0} (ps : List P) (k : ℕ) (d : P) (old new : List (P × P)) → suc k < length ps → old ≡ neighbours (take (suc k) ps) →
    new ≡ (old ++ (get_or ps k d, get_or ps (suc k) d) ∷ []) ++ (get_or ps (suc k) d, get_or ps k d) ∷ [] → new ≡ neighbours (take (suc k + 1) ps)
neighbours_at {P} ps k d old new within made more =
    let next : suc (suc k) ≡ suc k + 1 = omega arith in
    more
    ∙ (two_pushed old (get_or ps k d, get_or ps (suc k) d) (get_or ps (suc k) d, get_or ps k d)
    ∙ (ap (λ (steps : List (P × P)). steps ++ (get_or ps k d, get_or ps (suc k) d) ∷ (get_or ps (suc k) d, get_or ps k d) ∷ []) made
    ∙ (sym (neighbours_more ps k d within) ∙ ap (λ (n : ℕ). neighbours (take n ps)) next)))

pub neighbours_step : {P : Type 0} (ps : List P) (place : ℕ) (d : P) (old new : List (P × P)) → 1 ≤ place → place < length ps → old ≡ neighbours (take place ps) →
    new ≡ (old ++ (get_or ps (place - 1) d, get_or ps place d) ∷ []) ++ (get_or ps place d, get_or ps (place - 1) d) ∷ [] → new ≡ neighbours (take (place + 1) ps)
neighbours_step {P} ps place d old new some within made more =
    let here : suc (place - 1) ≡ place = omega (arith, some) in
    subst (λ (n : ℕ). n < length ps → old ≡ neighbours (take n ps) → new ≡ (old ++ (get_or ps (place - 1) d, get_or ps n d) ∷ []) ++ (get_or ps n d, get_or ps (place - 1) d) ∷ [] →
    new ≡ neighbours (take (n + 1) ps)) here (neighbours_at ps (place - 1) d old new) within made more

module _ (ts : List Tree) where
  numbered_neighbours : (ps : List Property) → numbered_pairs ts (neighbours ps) ≡ neighbours (map (number_of ts) ps)
  numbered_neighbours [] = refl
  numbered_neighbours (p ∷ []) = refl
  numbered_neighbours (p ∷ q ∷ ps) =
      ap (λ (more : List (PropertyNumber × PropertyNumber)). (number_of ts p, number_of ts q) ∷ (number_of ts q, number_of ts p) ∷ more) (numbered_neighbours (q ∷ ps))

  numbered_over : (t : Tag) (ps : List Property) → numbered_pairs ts (steps_over inverse t ps) ≡ steps_over inverse_number t (map (number_of ts) ps)
  unfolding steps_over
  numbered_over tag.SubObjectPropertyOf [] = refl
  numbered_over tag.SubObjectPropertyOf (p ∷ []) = refl
  numbered_over tag.SubObjectPropertyOf (p ∷ q ∷ []) = refl
  numbered_over tag.SubObjectPropertyOf (p ∷ q ∷ r ∷ ps) = refl
  numbered_over tag.EquivalentObjectProperties ps = numbered_neighbours ps
  numbered_over tag.InverseObjectProperties [] = refl
  numbered_over tag.InverseObjectProperties (p ∷ []) = refl
  numbered_over tag.InverseObjectProperties (p ∷ q ∷ []) = refl
  numbered_over tag.InverseObjectProperties (p ∷ q ∷ r ∷ ps) = refl
  numbered_over tag.SymmetricObjectProperty [] = refl
  numbered_over tag.SymmetricObjectProperty (p ∷ []) = refl
  numbered_over tag.SymmetricObjectProperty (p ∷ q ∷ ps) = refl
  numbered_over _ ps = refl

  turned_numbered : (pairs : List (Property × Property)) → numbered_pairs ts (with_inverses inverse pairs) ≡ with_inverses inverse_number (numbered_pairs ts pairs)
  turned_numbered pairs =
      map-append (λ (pair : Property × Property). (number_of ts pair.0, number_of ts pair.1)) pairs (map (λ (pair : Property × Property). (inverse pair.0, inverse pair.1)) pairs)
      ∙ ap (λ (more : List (PropertyNumber × PropertyNumber)). numbered_pairs ts pairs ++ more)
      (map-map (λ (pair : Property × Property). (number_of ts pair.0, number_of ts pair.1)) (λ (pair : Property × Property). (inverse pair.0, inverse pair.1)) pairs
      ∙ sym (map-map (λ (step : PropertyNumber × PropertyNumber). (inverse_number step.0, inverse_number step.1)) (λ (pair : Property × Property). (number_of ts pair.0, number_of ts pair.1)) pairs))

  -- what the code makes of an axiom
  pub axiom_numbered : (t : Tree) (numbers : List PropertyNumber) (stated steps : List (PropertyNumber × PropertyNumber)) → numbers ≡ numbers_in ts (operands t) → stated ≡ steps_over inverse_number (tag_of t) numbers → steps ≡ with_inverses inverse_number stated → steps ≡ numbered_pairs ts (steps_of t)
  axiom_numbered t numbers stated steps e f g =
      g ∙ (ap (with_inverses inverse_number) (f ∙ (ap (steps_over inverse_number (tag_of t)) e ∙ sym (numbered_over (tag_of t) (properties_in (operands t)))))
      ∙ sym (turned_numbered (steps_over inverse (tag_of t) (properties_in (operands t)))))

  pub leads_both : (xs ys : List ℕ) → numbered_pairs ts (leads (trees_at ts (xs ++ ys))) ≡ numbered_pairs ts (leads (trees_at ts xs)) ++ numbered_pairs ts (leads (trees_at ts ys))
  leads_both xs ys =
      ap (λ (axioms : List Tree). numbered_pairs ts (leads axioms)) (map-append (tree_at ts) xs ys)
      ∙ (ap (numbered_pairs ts) (flat_map-append steps_of (trees_at ts xs) (trees_at ts ys)) ∙ map-append (λ (pair : Property × Property). (number_of ts pair.0, number_of ts pair.1)) (leads (trees_at ts xs)) (leads (trees_at ts ys)))

  pub numbers_at_both : (xs ys : List ℕ) → numbers_in ts (trees_at ts (xs ++ ys)) ≡ numbers_in ts (trees_at ts xs) ++ numbers_in ts (trees_at ts ys)
  numbers_at_both xs ys = ap (numbers_in ts) (map-append (tree_at ts) xs ys) ∙ numbers_both ts (trees_at ts xs) (trees_at ts ys)

-- what is stated, arm by arm
module _ {P : Type 0} (inverse_of : P → P) where
  pub sub_over : (ps : List P) (d : P) → 2 ≤ length ps → length ps < 3 → steps_over inverse_of tag.SubObjectPropertyOf ps ≡ (get_or ps 0 d, get_or ps 1 d) ∷ []
  unfolding steps_over
  sub_over [] d h k = absurd (omega (arith, h))
  sub_over (p ∷ []) d h k = absurd (omega (arith, h))
  sub_over (p ∷ q ∷ []) d h k = refl
  sub_over (p ∷ q ∷ r ∷ ps) d h k = absurd (omega (arith, k))

  pub own_inverse_over : (ps : List P) (d : P) → 1 ≤ length ps → length ps < 2 → steps_over inverse_of tag.InverseObjectProperties ps ≡ neighbours (get_or ps 0 d ∷ inverse_of (get_or ps 0 d) ∷ [])
  unfolding steps_over
  own_inverse_over [] d h k = absurd (omega (arith, h))
  own_inverse_over (p ∷ []) d h k = refl
  own_inverse_over (p ∷ q ∷ ps) d h k = absurd (omega (arith, k))

  pub inverses_over : (ps : List P) (d : P) → 2 ≤ length ps → length ps < 3 → steps_over inverse_of tag.InverseObjectProperties ps ≡ neighbours (get_or ps 0 d ∷ inverse_of (get_or ps 1 d) ∷ [])
  unfolding steps_over
  inverses_over [] d h k = absurd (omega (arith, h))
  inverses_over (p ∷ []) d h k = absurd (omega (arith, h))
  inverses_over (p ∷ q ∷ []) d h k = refl
  inverses_over (p ∷ q ∷ r ∷ ps) d h k = absurd (omega (arith, k))

  pub symmetric_over : (ps : List P) (d : P) → 1 ≤ length ps → length ps < 2 → steps_over inverse_of tag.SymmetricObjectProperty ps ≡ (get_or ps 0 d, inverse_of (get_or ps 0 d)) ∷ []
  unfolding steps_over
  symmetric_over [] d h k = absurd (omega (arith, h))
  symmetric_over (p ∷ []) d h k = refl
  symmetric_over (p ∷ q ∷ ps) d h k = absurd (omega (arith, k))

  -- and where there are other numbers of them
  pub sub_none : (ps : List P) → (length ps ≡ 2 → ⊥) → steps_over inverse_of tag.SubObjectPropertyOf ps ≡ []
  unfolding steps_over
  sub_none [] h = refl
  sub_none (p ∷ []) h = refl
  sub_none (p ∷ q ∷ []) h = absurd (h refl)
  sub_none (p ∷ q ∷ r ∷ ps) h = refl

  pub inverses_none : (ps : List P) → (length ps ≡ 1 → ⊥) → (length ps ≡ 2 → ⊥) → steps_over inverse_of tag.InverseObjectProperties ps ≡ []
  unfolding steps_over
  inverses_none [] h k = refl
  inverses_none (p ∷ []) h k = absurd (h refl)
  inverses_none (p ∷ q ∷ []) h k = absurd (k refl)
  inverses_none (p ∷ q ∷ r ∷ ps) h k = refl

  pub symmetric_none : (ps : List P) → (length ps ≡ 1 → ⊥) → steps_over inverse_of tag.SymmetricObjectProperty ps ≡ []
  unfolding steps_over
  symmetric_none [] h = refl
  symmetric_none (p ∷ []) h = absurd (h refl)
  symmetric_none (p ∷ q ∷ ps) h = refl
