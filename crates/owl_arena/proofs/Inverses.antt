-- At most two members, by their numbers.
use Rattle.std.proofs.Common.{◌≡◌, ◌↔◌, ◌⊎◌, inl, inr, ◌<◌, ℕ, IsTrue, Bool, true, false, ◌||◌, List, [], ◌∷◌, length, drop, refl, subst}
use Rattle.std.specs.Prelude.{nat_eq}
use Rattle.std.proofs.lemmas.Bool.{and_from, and_parts, eq-eqb, eqb-true, or_cases, or_left, or_right}
use Rattle.owl_tree.specs.Equivalence.{IsEquivalent}
use Rattle.owl_tree.proofs.EquivalenceLaws.{equivalent_refl, equivalent_sym, equivalent_trans}
use Rattle.owl_tree.specs.Shape.{AreAtMostTwo}
use Rattle.owl_tree.specs.ShapeTests.{AreLikeEither}
use Rattle.owl_tree.proofs.ShapeTestLaws.{none_at_most_two, some_at_most_two}
use Rattle.owl_tree.specs.Trees.{Tree}
use Rattle.owl_arena.specs.Held.{AreHeld, tree_at, trees_at}
use Rattle.owl_arena.specs.Members.{are_at_most_two, are_either, are_one_other, other_from}
use Rattle.owl_arena.specs.Shared.{TellEquivalence}

module _ (ts : List Tree) where
  like_number : (a b : ℕ) → nat_eq a b ≡ true → IsEquivalent (tree_at ts a) (tree_at ts b)
  like_number a b e = subst (λ (k : ℕ). IsEquivalent (tree_at ts a) (tree_at ts k)) (eqb-true a b e) (equivalent_refl (tree_at ts a))

  like_one : (one other id : ℕ) → (nat_eq id one ≡ true) ⊎ (nat_eq id other ≡ true) → IsEquivalent (tree_at ts id) (tree_at ts one) ⊎ IsEquivalent (tree_at ts id) (tree_at ts other)
  like_one one other id (inl e) = inl (like_number id one e)
  like_one one other id (inr e) = inr (like_number id other e)

  either_like : (one other : ℕ) (ids : List ℕ) → are_either one other ids ≡ true → AreLikeEither (tree_at ts one) (tree_at ts other) (trees_at ts ids)
  either_like one other [] e = tt
  either_like one other (id ∷ ids) e =
      (like_one one other id (or_cases _ _ (and_parts (nat_eq id one || nat_eq id other) _ e).0), either_like one other ids (and_parts (nat_eq id one || nat_eq id other) _ e).1)

  abbrev HasOther : ℕ → List ℕ → Type 0
  HasOther one ids = (q : Tree) × AreLikeEither (tree_at ts one) q (trees_at ts ids)

  other_like_by : (one id : ℕ) (ids : List ℕ) (is : Bool) → nat_eq id one ≡ is → (are_one_other one ids ≡ true → HasOther one ids) → other_from is (are_one_other one ids) (are_either one id ids) ≡ true → HasOther one (id ∷ ids)
  other_like_by one id ids true same later e = let rest = later e in (rest.0, (inl (like_number id one same), rest.1))
  other_like_by one id ids false same later e = (tree_at ts id, (inr (equivalent_refl (tree_at ts id)), either_like one id ids e))

  other_like : (one : ℕ) (ids : List ℕ) → are_one_other one ids ≡ true → HasOther one ids
  other_like one [] e = (tree_at ts one, tt)
  other_like one (id ∷ ids) e = other_like_by one id ids (nat_eq id one) refl (other_like one ids) e

  module _ (tell : TellEquivalence ts) where
    -- trees that are like one tree have one number
    met : (a b : ℕ) (p : Tree) → a < length ts → b < length ts → IsEquivalent (tree_at ts a) p → IsEquivalent (tree_at ts b) p → nat_eq a b ≡ true
    met a b p h j e f = eq-eqb a b ((tell a b h j).1 (equivalent_trans (tree_at ts a) p (tree_at ts b) e (equivalent_sym (tree_at ts b) p f)))

    found_by : (one other id : ℕ) (q : Tree) → one < length ts → other < length ts → id < length ts → IsEquivalent (tree_at ts other) q → IsEquivalent (tree_at ts id) (tree_at ts one) ⊎ IsEquivalent (tree_at ts id) q
        → (nat_eq id one || nat_eq id other) ≡ true
    found_by one other id q h j k e (inl g) = or_left _ _ (met id one (tree_at ts one) k h g (equivalent_refl (tree_at ts one)))
    found_by one other id q h j k e (inr g) = or_right _ _ (met id other q k j g e)

    either_found : (one other : ℕ) (q : Tree) (ids : List ℕ) → one < length ts → other < length ts → AreHeld ts ids → IsEquivalent (tree_at ts other) q → AreLikeEither (tree_at ts one) q (trees_at ts ids) → are_either one other ids ≡ true
    either_found one other q [] h j k e g = refl
    either_found one other q (id ∷ ids) h j k e g = and_from _ _ (found_by one other id q h j k.0 e g.0) (either_found one other q ids h j k.1 e g.1)

    -- one that has another number than the one is like the other tree
    like_other : (one id : ℕ) (q : Tree) → one < length ts → id < length ts → nat_eq id one ≡ false → IsEquivalent (tree_at ts id) (tree_at ts one) ⊎ IsEquivalent (tree_at ts id) q → IsEquivalent (tree_at ts id) q
    like_other one id q h j apart (inl g) = let same = met id one (tree_at ts one) j h g (equivalent_refl (tree_at ts one)) in absurd cc
    like_other one id q h j apart (inr g) = g

    one_other_by : (one id : ℕ) (q : Tree) (ids : List ℕ) (is : Bool) → nat_eq id one ≡ is → one < length ts → AreHeld ts (id ∷ ids) → AreLikeEither (tree_at ts one) q (trees_at ts (id ∷ ids)) → are_one_other one ids ≡ true
        → other_from is (are_one_other one ids) (are_either one id ids) ≡ true
    one_other_by one id q ids true same h j g later = later
    one_other_by one id q ids false apart h j g later = either_found one id q ids h j.0 j.1 (like_other one id q h j.0 apart g.0) g.1

    one_other_found : (one : ℕ) (q : Tree) (ids : List ℕ) → one < length ts → AreHeld ts ids → AreLikeEither (tree_at ts one) q (trees_at ts ids) → are_one_other one ids ≡ true
    one_other_found one q [] h j g = refl
    one_other_found one q (id ∷ ids) h j g = one_other_by one id q ids (nat_eq id one) refl h j g (one_other_found one q ids h j.1 g.1)

    at_most_two : (ids : List ℕ) → AreHeld ts ids → IsTrue (are_at_most_two ids) ↔ AreAtMostTwo (trees_at ts ids)
    at_most_two [] h = none_at_most_two
    at_most_two (one ∷ ids) h = some_at_most_two (tree_at ts one) (trees_at ts ids) (are_one_other one ids) (other_like one ids, λ k. one_other_found one k.0 ids h.0 h.1 k.1)

    pub behind_first_two : (ids : List ℕ) → AreHeld ts ids → IsTrue (are_at_most_two (drop 1 ids)) ↔ AreAtMostTwo (drop 1 (trees_at ts ids))
    behind_first_two [] h = at_most_two [] tt
    behind_first_two (id ∷ ids) h = at_most_two ids h.1
