-- Laws of lists.
use Rattle.std.proofs.Common.{◌≡◌, inl, inr, ℕ, zero, suc, Bool, true, false, List, [], ◌∷◌, ◌++◌, Option, None, Some, refl, sym, ap, ◌∙◌, subst}
use Rattle.std.specs.Prelude.{Contains, slice_get}
use Rattle.std.specs.List.{AllByRecursion, IsDistinct}
use Rattle.std.specs.Option.{option_map}
use Rattle.std.proofs.lemmas.Bool.{false≢true}
use Rattle.std.proofs.lemmas.List.Elements.{Contains-append_cases, Contains-append_left, Contains-append_right}
use Rattle.std.proofs.lemmas.Option.{get_or_from_slice_get, none-some, same_Some, slice_get-get_or, slice_get_within}
use Rattle.owl_list.specs.Ascending.{HoldSame}
use Rattle.owl_list.proofs.AscendingLaws.{all_in, in_cases, in_none}

pub all_both : {X : Type 0} (P : X → Type 0) (xs ys : List X) → AllByRecursion P xs → AllByRecursion P ys → AllByRecursion P (xs ++ ys)
all_both P [] ys h k = k
all_both P (x ∷ xs) ys h k = (h.0, all_both P xs ys h.1 k)

pub stands_at : {X : Type 0} (xs : List X) (x : X) → Contains xs x → (place : ℕ) × (slice_get xs place ≡ Some x)
stands_at {X} xs x m = (m.0, slice_get-get_or xs m.0 x m.1 ∙ ap (λ (y : X). Some y) m.2)

pub stands_in : {X : Type 0} (xs : List X) (place : ℕ) (x : X) → slice_get xs place ≡ Some x → Contains xs x
stands_in xs place x is = (place, slice_get_within xs place x is, get_or_from_slice_get xs place x x is)

pub stays_at : {X : Type 0} (xs ys : List X) (place : ℕ) (x : X) → slice_get xs place ≡ Some x → slice_get (xs ++ ys) place ≡ Some x
stays_at [] ys place x is = absurd (none-some x is)
stays_at (y ∷ xs) ys zero x is = is
stays_at (y ∷ xs) ys (suc place) x is = stays_at xs ys place x is

-- what stands twice in a list of distinct elements stands in one place
pub stands_once : {X : Type 0} (eq : X → X → Bool) (itself : (x : X) → eq x x ≡ true) (xs : List X) → IsDistinct eq xs → (j k : ℕ) (x : X) → slice_get xs j ≡ Some x → slice_get xs k ≡ Some x → j ≡ k
unfolding IsDistinct
stands_once eq itself [] d j k x first second = absurd (none-some x first)
stands_once eq itself (y ∷ xs) d zero zero x first second = refl
stands_once {X} eq itself (y ∷ xs) d zero (suc k) x first second =
    let same : y ≡ x = same_Some y x first in
    let differs : eq y x ≡ false = all_in (λ (z : X). eq y z ≡ false) xs x d.0 (stands_in xs k x second) in
    absurd (false≢true (sym differs ∙ (ap (λ (z : X). eq z x) same ∙ itself x)))
stands_once {X} eq itself (y ∷ xs) d (suc j) zero x first second =
    let same : y ≡ x = same_Some y x second in
    let differs : eq y x ≡ false = all_in (λ (z : X). eq y z ≡ false) xs x d.0 (stands_in xs j x first) in
    absurd (false≢true (sym differs ∙ (ap (λ (z : X). eq z x) same ∙ itself x)))
stands_once eq itself (y ∷ xs) d (suc j) (suc k) x first second = ap suc (stands_once eq itself xs d.1 j k x first second)

-- what is made of an option that is there
pub option_back : {X Y : Type 0} (f : X → Y) (o : Option X) (y : Y) → option_map f o ≡ Some y → (x : X) × (o ≡ Some x) × (f x ≡ y)
option_back f None y e = absurd (none-some y e)
option_back f (Some x) y e = (x, refl, same_Some (f x) y e)

pub hold_more : {X : Type 0} (xs ys zs : List X) → HoldSame xs ys → HoldSame (xs ++ zs) (ys ++ zs)
hold_more xs ys zs same = λ x. (
  λ m. elim (Contains-append_cases xs zs x m) as (λ _. Contains (ys ++ zs) x) [
    | inl n ↦ Contains-append_left ys zs x ((same x).0 n)
    | inr n ↦ Contains-append_right ys zs x n
  ],
  λ m. elim (Contains-append_cases ys zs x m) as (λ _. Contains (xs ++ zs) x) [
    | inl n ↦ Contains-append_left xs zs x ((same x).1 n)
    | inr n ↦ Contains-append_right xs zs x n
  ],
)

pub hold_again : {X : Type 0} (xs ys : List X) (y : X) → HoldSame xs ys → Contains xs y → HoldSame xs (ys ++ y ∷ [])
hold_again {X} xs ys y same there = λ x. (
  λ m. Contains-append_left ys (y ∷ []) x ((same x).0 m),
  λ m. elim (Contains-append_cases ys (y ∷ []) x m) as (λ _. Contains xs x) [
    | inl n ↦ (same x).1 n
    | inr n ↦ elim (in_cases y [] x n) as (λ _. Contains xs x) [
      | inl e ↦ subst (λ (z : X). Contains xs z) e there
      | inr none ↦ absurd (in_none x none)
    ]
  ],
)
