-- What the tests of shapes show.
use Rattle.std.proofs.Common.{◌≡◌, ◌↔◌, ◌⊎◌, inl, inr, ℕ, suc, IsTrue, Bool, true, false, not, ◌==◌, List, [], ◌∷◌, length, Contains, refl, sym, subst, arith}
use Rattle.std.specs.Ordering.{on}
use Rattle.std.proofs.lemmas.Bool.Decides.{nat_tests}
use Rattle.owl_list.proofs.AscendingLaws.{in_cases, in_head, in_none}
use Rattle.owl_tree.specs.declared.tag.Tag.{Tag}
use Rattle.owl_tree.specs.declared.tag.Tag.TheVariants as tag
use Rattle.owl_tree.specs.Equivalence.{IsEquivalent}
use Rattle.owl_tree.proofs.EquivalenceLaws.{equivalent_refl, equivalent_sym, equivalent_trans}
use Rattle.owl_tree.specs.OrderLaws.{same_tag}
use Rattle.owl_tree.specs.Shape.{AreAtMostTwo, HasKeyProperty}
use Rattle.owl_tree.specs.ShapeTests.{AreLikeEither, IsKeyGroup}
use Rattle.owl_tree.specs.Tags.{number_of}
use Rattle.owl_tree.specs.Trees.{Tree, kids_in, no_kids, node, tag_of}

pub not_first : (b : Bool) (P Q : Type 0) → b ≡ false → IsTrue b ↔ P → (P ⊎ Q) → Q
not_first b P Q e h (inl p) = let k = h.1 p in cc
not_first b P Q e h (inr q) = q

-- a test of one fact or another gives the first test where it holds, and else the second
pub or_first : (P Q : Type 0) (is : Bool) → is ≡ true → IsTrue is ↔ P → IsTrue is ↔ (P ⊎ Q)
or_first P Q is e p = (λ h. inl (p.0 h), λ k. e)

pub or_second : (P Q : Type 0) (is rest : Bool) → is ≡ false → IsTrue is ↔ P → IsTrue rest ↔ Q → IsTrue rest ↔ (P ⊎ Q)
or_second P Q is rest e p q = (λ h. inr (q.0 h), λ k. q.1 (not_first is P Q e p k))

pub only_where : (P Q : Type 0) (rest : Bool) → P → IsTrue rest ↔ Q → IsTrue rest ↔ (P → Q)
only_where P Q rest p q = (λ h _. q.0 h, λ k. q.1 (k p))

pub tag_told : (t u : Tag) (is : Bool) → is ≡ on number_of ◌==◌ t u → IsTrue is ↔ (t ≡ u)
tag_told t u is e = rw e (same_tag t u)

undone : (b ne : Bool) → ne ≡ not b → ne ≡ false → b ≡ true
undone true ne e h = refl
undone false ne e h = cc

-- a tag that is not found to be another
pub not_other : (t u : Tag) (ne : Bool) → ne ≡ not (on number_of ◌==◌ t u) → ne ≡ false → t ≡ u
not_other t u ne e h = (same_tag t u).0 (undone _ ne e h)

some_left : (n : ℕ) → not (suc n == 0) ≡ true
some_left n = grind (arith, nat_tests)

-- a group of keys, whose kids are told empty or not
pub group_told : (a : Tree) (ts : List Tree) (empty : Bool) → (tag_of a ≡ tag.ObjectKeys) ⊎ (tag_of a ≡ tag.DataKeys) → ts ≡ kids_in a → empty ≡ (length ts == 0) → IsTrue (not empty) ↔ IsKeyGroup a
group_told a [] empty h kids e = rw e (λ k. absurd cc, λ k. absurd (in_none k.property (subst (λ (us : List Tree). Contains us k.property) (sym kids) k.member)))
group_told a (t ∷ ts) empty h kids e =
    rw e (λ k. record { is_group = h; property = t; member = subst (λ (us : List Tree). Contains us t) kids (in_head t ts) }, λ k. some_left (length ts))

-- a group with a key is the first or behind it
group_in : (t : Tree) (ts : List Tree) (k : HasKeyProperty (t ∷ ts)) → (t ≡ k.group) ⊎ Contains ts k.group → IsKeyGroup t ⊎ HasKeyProperty ts
group_in t ts k (inl e) = inl (subst IsKeyGroup (sym e) (record { is_group = k.is_group; property = k.property; member = k.member }))
group_in t ts k (inr m) = inr (record { group = k.group; inside = m; is_group = k.is_group; property = k.property; member = k.member })

pub key_behind : (t : Tree) (ts : List Tree) (is : Bool) → is ≡ false → IsTrue is ↔ IsKeyGroup t → HasKeyProperty (t ∷ ts) → HasKeyProperty ts
key_behind t ts is e h k = not_first is (IsKeyGroup t) (HasKeyProperty ts) e h (group_in t ts k (in_cases t ts k.group k.inside))

-- what is equivalent to the one is equivalent to what that is equivalent to
alike_or : (one t u v : Tree) → IsEquivalent t u → (IsEquivalent v one ⊎ IsEquivalent v u) → (IsEquivalent v one ⊎ IsEquivalent v t)
alike_or one t u v e (inl h) = inl h
alike_or one t u v e (inr h) = inr (equivalent_trans v u t h (equivalent_sym t u e))

pub alike_through : (one t u : Tree) (ts : List Tree) → IsEquivalent t u → AreLikeEither one u ts → AreLikeEither one t ts
alike_through one t u [] e h = tt
alike_through one t u (v ∷ ts) e h = (alike_or one t u v e h.0, alike_through one t u ts e h.1)

swapped : (P Q : Type 0) → P ⊎ Q → Q ⊎ P
swapped P Q (inl p) = inr p
swapped P Q (inr q) = inl q

alike_swapped : (one other : Tree) (ts : List Tree) → AreLikeEither one other ts → AreLikeEither other one ts
alike_swapped one other [] h = tt
alike_swapped one other (t ∷ ts) h = (swapped _ _ h.0, alike_swapped one other ts h.1)

-- the first of them may stand for one of the two
first_of_two : (one other t : Tree) (ts : List Tree) → AreLikeEither one other ts → (IsEquivalent t one ⊎ IsEquivalent t other) → (x : Tree) × AreLikeEither t x ts
first_of_two one other t ts h (inl e) = (other, alike_swapped other t ts (alike_through other t one ts e (alike_swapped one other ts h)))
first_of_two one other t ts h (inr e) = (one, alike_swapped one t ts (alike_through one t other ts e h))

pub none_at_most_two : IsTrue true ↔ AreAtMostTwo []
none_at_most_two = (λ k. record { one = node tag.Notes no_kids; other = node tag.Notes no_kids; each = tt }, λ k. refl)

-- the first and one other
pub some_at_most_two : (t : Tree) (ts : List Tree) (rest : Bool) → IsTrue rest ↔ ((other : Tree) × AreLikeEither t other ts) → IsTrue rest ↔ AreAtMostTwo (t ∷ ts)
some_at_most_two t ts rest q = (
  λ h. let k = q.0 h in record { one = t; other = k.0; each = (inl (equivalent_refl t), k.1) },
  λ k. q.1 (first_of_two k.one k.other t ts k.each.1 k.each.0),
)
