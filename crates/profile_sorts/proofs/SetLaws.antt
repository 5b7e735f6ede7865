-- Sorts by their numbers, and sets of them as bits.
use Rattle.std.proofs.Common.{◌≡◌, ◌≢◌, ◌<◌, ◌≤◌, ◌+◌, ◌*◌, ◌%◌, ◌^◌, ℕ, Bool, true, false, ◌||◌, nat_eq, bit_or, List, [], ◌∷◌, get_or, leb-true, inl, inr, refl, sym, ap, ◌∙◌, arith, w32}
use Rattle.std.specs.Int.{bit_at}
use Rattle.std.proofs.lemmas.Bool.{cases_lt}
use Rattle.std.proofs.lemmas.Nat.Bits.{bit_at_set_other, bit_at_set_same}
use Rattle.profile_sorts.specs.declared.set.SortSet.{SortSet}
use Rattle.profile_sorts.specs.declared.sort.Sort.{Sort}
use Rattle.profile_sorts.specs.declared.sort.Sort.TheVariants.{Anything, Thing, Class, Property, ZeroOrOne, Ranges, SharedDatatypes, Named, ElAxiom, ElClasses, ElRanges, ElProperties, QlAxiom, QlClasses, QlSub, QlSuper, RlAxiom, RlClasses, RlSub, RlFiller, RlSuper, RlEquivalent, RlDatatypes, RlProperties}
use Rattle.profile_sorts.specs.Sets.{has, number_of}

all_sorts : List Sort
all_sorts =
    Anything ∷ Thing ∷ Class ∷ Property ∷ ZeroOrOne ∷ Ranges ∷ SharedDatatypes ∷ Named ∷ ElAxiom ∷ ElClasses ∷ ElRanges ∷ ElProperties ∷ QlAxiom
    ∷ QlClasses ∷ QlSub ∷ QlSuper ∷ RlAxiom ∷ RlClasses ∷ RlSub ∷ RlFiller ∷ RlSuper ∷ RlEquivalent ∷ RlDatatypes ∷ RlProperties ∷ []

stands : (s : Sort) → get_or all_sorts (number_of s) Anything ≡ s
unfolding number_of all_sorts
stands Anything = refl
stands _ = refl

pub one_sort : (s u : Sort) → number_of s ≡ number_of u → s ≡ u
one_sort s u e = sym (stands s) ∙ ap (λ (n : ℕ). get_or all_sorts n Anything) e ∙ stands u

pub few_sorts : (s : Sort) → number_of s < 24
unfolding number_of
few_sorts Anything = leb-true 1 24 refl
few_sorts _ = leb-true _ 24 refl

-- the bit of a sort, and those of others
module _ (set n : ℕ) (sort other : Sort) (is : n ≡ number_of sort) (below : n < 24) where
  within : n < 32
  within = omega (arith, below)

  pub same_is_in : number_of other ≡ number_of sort → nat_eq (bit_at (bit_or set (1 * 2 ^ n % 2 ^ 32)) (number_of other)) 1 ≡ true
  same_is_in same =
      let here = ap (bit_at (bit_or set (1 * 2 ^ n % 2 ^ 32))) (same ∙ sym is) ∙ bit_at_set_same w32 set n within in
      ap (λ (b : ℕ). nat_eq b 1) here

  pub others_stay : number_of other ≢ number_of sort → nat_eq (bit_at (bit_or set (1 * 2 ^ n % 2 ^ 32)) (number_of other)) 1 ≡ nat_eq (bit_at set (number_of other)) 1
  others_stay differ = ap (λ (b : ℕ). nat_eq b 1) (bit_at_set_other w32 set n within (number_of other) (λ e. differ (e ∙ is)))

or_none : (b : Bool) → (b || false) ≡ b
or_none true = refl
or_none false = refl

-- one more sort is decided
module _ (old new : SortSet) (n : ℕ) (sort : Sort) (numbered : number_of sort ≡ n) (others : (s : Sort) → number_of s ≢ number_of sort → has new s ≡ has old s) (left : (s : Sort) → n ≤ number_of s → has old s ≡ false) where
  pub left_later : (s : Sort) → n + 1 ≤ number_of s → has new s ≡ false
  left_later s behind = others s (λ e. omega (arith, e, numbered, behind)) ∙ left s (omega (arith, behind))

  pub done_later : (f : Sort → Bool) (is : Bool) → ((s : Sort) → number_of s ≡ number_of sort → has new s ≡ (is || has old s)) → is ≡ f sort → ((s : Sort) → number_of s < n → has old s ≡ f s) → (s : Sort) → number_of s < n + 1 → has new s ≡ f s
  done_later f is same told done s inside =
      elim (cases_lt (number_of s) n) [
        | inl before ↦ others s (λ e. omega (arith, e, numbered, before)) ∙ done s before
        | inr past ↦
            let e : number_of s ≡ number_of sort = omega (arith, numbered, inside, past) in
            same s e ∙ ap (λ (b : Bool). is || b) (left s (omega (arith, past))) ∙ or_none is ∙ told ∙ ap f (sym (one_sort s sort e))
      ]
