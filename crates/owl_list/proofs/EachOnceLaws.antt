-- Lists over a type in which equality is decided: whether they have an element, their elements each once, and those that others have.
use Rattle.std.proofs.Common.{◌≡◌, ◌⊎◌, inl, inr, ℕ, zero, suc, Bool, true, false, List, [], ◌∷◌, refl, sym, ap, ◌∙◌, subst}
use Rattle.std.specs.Prelude.{◌↔◌, Contains, Decides, Some, slice_get}
use Rattle.std.specs.List.{filter}
use Rattle.std.proofs.lemmas.Bool.{cases_Bool, false≢true}
use Rattle.std.proofs.lemmas.Option.{get_or_from_slice_get, same_Some, slice_get-get_or, slice_get_within}
use Rattle.owl_list.specs.Ascending.{AreApart, HoldSame}
use Rattle.owl_list.proofs.AscendingLaws.{in_cases, in_head, in_none, in_tail, same_behind}
use Rattle.owl_list.proofs.FilterLaws.{from_filter, in_filter}

pub decided : {b : Bool} {A : Type 0} → Decides b A → A ⊎ (A → ⊥)
decided {b} {A} tells = elim (cases_Bool b) as (λ _. A ⊎ (A → ⊥)) [
  | inl yes_ ↦ inl (tells.0 yes_)
  | inr not_ ↦ inr (λ a. false≢true (sym not_ ∙ tells.1 a))
]

is_first : {A : Type 0} → A ⊎ (A → ⊥) → Bool
is_first (inl a) = true
is_first (inr never) = false

first_of_it : {A : Type 0} (o : A ⊎ (A → ⊥)) → is_first o ≡ true → A
unfolding is_first
first_of_it (inl a) h = a
first_of_it (inr never) h = absurd (false≢true h)

is_first_where : {A : Type 0} (o : A ⊎ (A → ⊥)) → A → is_first o ≡ true
unfolding is_first
is_first_where (inl a) h = refl
is_first_where (inr never) h = absurd (never h)

-- each element once
pub record IsOnce {X : Type 0} (xs : List X) : Type 0 where
  pub these : List X
  pub apart : AreApart these
  pub same : HoldSame these xs

module _ {X : Type 0} (decide : (x y : X) → (x ≡ y) ⊎ (x ≡ y → ⊥)) where
  -- whether a list has an element
  pub in_or_not : (xs : List X) (x : X) → Contains xs x ⊎ (Contains xs x → ⊥)
  in_or_not [] x = inr (in_none x)
  in_or_not (y ∷ ys) x =
      elim (decide y x) as (λ _. Contains (y ∷ ys) x ⊎ (Contains (y ∷ ys) x → ⊥)) [
        | inl same ↦ inl (subst (λ (z : X). Contains (y ∷ ys) z) same (in_head y ys))
        | inr differs ↦ elim (in_or_not ys x) as (λ _. Contains (y ∷ ys) x ⊎ (Contains (y ∷ ys) x → ⊥)) [
          | inl m ↦ inl (in_tail y ys x m)
          | inr never ↦ inr (λ m. elim (in_cases y ys x m) as (λ _. ⊥) [ inl same ↦ differs same | inr n ↦ never n ])
        ]
      ]

  pub once : (xs : List X) → IsOnce xs
  once [] = record { these = []; apart = tt; same = λ x. (λ m. m, λ m. m) }
  once (x ∷ xs) =
      let rest = once xs in
      elim (in_or_not rest.these x) as (λ _. IsOnce (x ∷ xs)) [
        | inl m ↦ record {
          these = rest.these;
          apart = rest.apart;
          same = λ y. (
            λ n. in_tail x xs y ((rest.same y).0 n),
            λ n. elim (in_cases x xs y n) as (λ _. Contains rest.these y) [
              | inl is ↦ subst (λ (z : X). Contains rest.these z) is m
              | inr k ↦ (rest.same y).1 k
            ],
          );
        }
        | inr never ↦ record { these = x ∷ rest.these; apart = (never, rest.apart); same = same_behind x rest.these xs rest.same }
      ]

  is_in : List X → X → Bool
  is_in xs x = is_first (in_or_not xs x)

  -- those of the first that are among the second
  pub record IsTrimmed (xs among : List X) : Type 0 where
    pub these : List X
    pub told : (x : X) → Contains these x ↔ (Contains xs x × Contains among x)

  pub trimmed : (xs among : List X) → IsTrimmed xs among
  unfolding is_in
  trimmed xs among = record {
    these = filter (is_in among) xs;
    told = λ x. (
      λ m. let k = from_filter (is_in among) xs x m in (k.inside, first_of_it (in_or_not among x) k.passes),
      λ both. in_filter (is_in among) xs x both.0 (is_first_where (in_or_not among x) both.1),
    );
  }

pub there : {X : Type 0} (xs : List X) (place : ℕ) (x : X) → slice_get xs place ≡ Some x → Contains xs x
there xs place x is = (place, slice_get_within xs place x is, get_or_from_slice_get xs place x x is)

-- and each element stands in some place
pub at_place : {X : Type 0} (xs : List X) (x : X) (m : Contains xs x) → slice_get xs m.0 ≡ Some x
at_place {X} xs x m = slice_get-get_or xs m.0 x m.1 ∙ ap (λ (y : X). Some y) m.2

-- where none stands twice, one has one place
pub one_place : {X : Type 0} (xs : List X) → AreApart xs →
    (j k : ℕ) (x : X) → slice_get xs j ≡ Some x → slice_get xs k ≡ Some x → j ≡ k
one_place [] apart j k x first second = absurd (in_none x (there [] j x first))
one_place (y ∷ ys) apart zero zero x first second = refl
one_place {X} (y ∷ ys) apart zero (suc k) x first second =
    absurd (apart.0 (subst (λ (z : X). Contains ys z) (sym (same_Some y x first)) (there ys k x second)))
one_place {X} (y ∷ ys) apart (suc j) zero x first second =
    absurd (apart.0 (subst (λ (z : X). Contains ys z) (sym (same_Some y x second)) (there ys j x first)))
one_place (y ∷ ys) apart (suc j) (suc k) x first second = ap suc (one_place ys apart.1 j k x first second)
