-- The laws of lists that ascend.
use Rattle.std.proofs.Common.{◌≡◌, ◌<◌, ◌⊎◌, inl, inr, ℕ, zero, suc, List, [], ◌∷◌, ◌++◌, length, get_or, refl, sym, ap, ◌∙◌, subst, arith}
use Rattle.std.specs.Prelude.{map}
use Rattle.std.specs.declared.cmp.Ordering.{Ordering}
use Rattle.std.specs.declared.cmp.Ordering.TheVariants.{Less, Equal, Greater}
use Rattle.std.specs.Ordering.{ordering_reverse}
use Rattle.std.specs.Cmp.{IsTotalOrder}
use Rattle.std.specs.List.{Contains, AllByRecursion}
use Rattle.std.specs.List.Sorted.{IsStrictlySortedBy}
use Rattle.std.proofs.lemmas.Cmp.{tied_itself}
use Rattle.std.proofs.lemmas.List.Elements.{Contains-append_left, Contains-append_right}
use Rattle.owl_list.specs.Ascending.{by_order, put, ascending, IsAscending, HoldSame, AreApart}

-- membership, by cases on the list
module _ {X : Type 0} where
  pub in_head : (x : X) (xs : List X) → Contains (x ∷ xs) x
  in_head x xs = Contains-append_left (x ∷ []) xs x (0, omega arith, refl)

  pub in_tail : (y : X) (xs : List X) (x : X) → Contains xs x → Contains (y ∷ xs) x
  in_tail y xs x h = Contains-append_right (y ∷ []) xs x h

  none_at : (x : X) (k : ℕ) → k < 0 → ⊥
  none_at x k h = omega arith

  pub in_none : (x : X) → Contains [] x → ⊥
  in_none x h = none_at x h.0 h.1

  in_cases_at : (y : X) (ys : List X) (x : X) (k : ℕ) → k < length (y ∷ ys) → get_or (y ∷ ys) k x ≡ x → (y ≡ x) ⊎ Contains ys x
  in_cases_at y ys x zero h e = inl e
  in_cases_at y ys x (suc k) h e = inr (k, omega arith, e)

  pub in_cases : (y : X) (ys : List X) (x : X) → Contains (y ∷ ys) x → (y ≡ x) ⊎ Contains ys x
  in_cases y ys x h = in_cases_at y ys x h.0 h.1 h.2

  -- what is true of all of a list is true of each element
  pub all_in : (P : X → Type 0) (xs : List X) (x : X) → AllByRecursion P xs → Contains xs x → P x
  all_in P [] x h k = absurd (in_none x k)
  all_in P (y ∷ ys) x h k = elim (in_cases y ys x k) [ inl e ↦ subst P e h.0 | inr m ↦ all_in P ys x h.1 m ]

  -- what is true of each element is true of all of the list
  pub all_from : (P : X → Type 0) (xs : List X) → ((x : X) → Contains xs x → P x) → AllByRecursion P xs
  all_from P [] h = tt
  all_from P (x ∷ xs) h = (h x (in_head x xs), all_from P xs (λ y m. h y (in_tail x xs y m)))

  -- where one thing follows from another, so it does of all of a list
  pub all_later : (P Q : X → Type 0) → ((x : X) → P x → Q x) → (xs : List X) → AllByRecursion P xs → AllByRecursion Q xs
  all_later P Q step [] h = tt
  all_later P Q step (x ∷ xs) h = (step x h.0, all_later P Q step xs h.1)

  -- what is true of all of a list and of one more is true of the list with it behind
  pub all_pushed : (P : X → Type 0) (xs : List X) (x : X) → AllByRecursion P xs → P x → AllByRecursion P (xs ++ x ∷ [])
  all_pushed P [] x h p = (p, tt)
  all_pushed P (y ∷ ys) x h p = (h.0, all_pushed P ys x h.1 p)

  pub hold_same : (xs : List X) → HoldSame xs xs
  hold_same xs = λ x. (λ m. m, λ m. m)

  pub same_sym : (xs ys : List X) → HoldSame xs ys → HoldSame ys xs
  same_sym xs ys h = λ x. ((h x).1, (h x).0)

  pub same_trans : (xs ys zs : List X) → HoldSame xs ys → HoldSame ys zs → HoldSame xs zs
  same_trans xs ys zs h k = λ x. (λ m. (k x).0 ((h x).0 m), λ m. (h x).1 ((k x).1 m))

  pub same_from_equal : (xs ys : List X) → xs ≡ ys → HoldSame xs ys
  same_from_equal xs ys e = subst (λ (zs : List X). HoldSame xs zs) e (hold_same xs)

  pub same_behind : (x : X) (xs ys : List X) → HoldSame xs ys → HoldSame (x ∷ xs) (x ∷ ys)
  same_behind x xs ys h = λ z. (
    λ m. elim (in_cases x xs z m) [ inl e ↦ subst (λ (w : X). Contains (x ∷ ys) w) e (in_head x ys) | inr n ↦ in_tail x ys z ((h z).0 n) ],
    λ m. elim (in_cases x ys z m) [ inl e ↦ subst (λ (w : X). Contains (x ∷ xs) w) e (in_head x xs) | inr n ↦ in_tail x xs z ((h z).1 n) ],
  )

  -- what is true of all of a list is true of all of one that holds the same
  pub all_same : (P : X → Type 0) (xs ys : List X) → HoldSame xs ys → AllByRecursion P xs → AllByRecursion P ys
  all_same P xs ys h a = all_from P ys (λ y m. all_in P xs y a ((h y).1 m))

-- the elements of a list through a function
module _ {X Y : Type 0} (f : X → Y) where
  pub in_map : (xs : List X) (x : X) → Contains xs x → Contains (map f xs) (f x)
  in_map [] x m = absurd (in_none x m)
  in_map (y ∷ ys) x m =
      elim (in_cases y ys x m) [
        | inl e ↦ subst (λ (w : X). Contains (f y ∷ map f ys) (f w)) e (in_head (f y) (map f ys))
        | inr n ↦ in_tail (f y) (map f ys) (f x) (in_map ys x n)
      ]

  -- an element whose value this is
  pub record IsValueIn (xs : List X) (z : Y) : Type 0 where
    pub element : X
    pub inside : Contains xs element
    pub value : f element ≡ z

  pub from_map : (xs : List X) (z : Y) → Contains (map f xs) z → IsValueIn xs z
  from_map [] z m = absurd (in_none z m)
  from_map (x ∷ xs) z m =
      elim (in_cases (f x) (map f xs) z m) [
        | inl e ↦ record { element = x; inside = in_head x xs; value = e }
        | inr n ↦ let v = from_map xs z n in record { element = v.element; inside = in_tail x xs v.element v.inside; value = v.value }
      ]

  through_map : (xs ys : List X) → HoldSame xs ys → (z : Y) → Contains (map f xs) z → Contains (map f ys) z
  through_map xs ys h z m =
      let v = from_map xs z m in
      subst (λ (w : Y). Contains (map f ys) w) v.value (in_map ys v.element ((h v.element).0 v.inside))

  pub same_map : (xs ys : List X) → HoldSame xs ys → HoldSame (map f xs) (map f ys)
  same_map xs ys h = λ z. (through_map xs ys h z, through_map ys xs (same_sym xs ys h) z)

  pub all_map : (P : Y → Type 0) (xs : List X) → AllByRecursion (λ x. P (f x)) xs → AllByRecursion P (map f xs)
  all_map P [] h = tt
  all_map P (x ∷ xs) h = (h.0, all_map P xs h.1)

  pub all_before_map : (P : Y → Type 0) (xs : List X) → AllByRecursion P (map f xs) → AllByRecursion (λ x. P (f x)) xs
  all_before_map P [] h = tt
  all_before_map P (x ∷ xs) h = (h.0, all_before_map P xs h.1)

module _ {X : Type 0} (cmp : X → X → Ordering) where
  abbrev pub IsBelowAll : X → List X → Type 0
  IsBelowAll x xs = AllByRecursion (λ y. cmp x y ≡ Less) xs

  pub head_below : (x : X) (xs : List X) → IsAscending cmp (x ∷ xs) → IsBelowAll x xs
  unfolding IsStrictlySortedBy
  head_below x xs h = h.0

  pub tail_ascends : (x : X) (xs : List X) → IsAscending cmp (x ∷ xs) → IsAscending cmp xs
  unfolding IsStrictlySortedBy
  tail_ascends x xs h = h.1

  pub ascends : (x : X) (xs : List X) → IsBelowAll x xs → IsAscending cmp xs → IsAscending cmp (x ∷ xs)
  unfolding IsStrictlySortedBy
  ascends x xs h k = (h, k)

  pub nothing_ascends : IsAscending cmp []
  unfolding IsStrictlySortedBy
  nothing_ascends = tt

  -- what `put` leaves is below what it was below
  below_by : (o : Ordering) (z x y : X) (ys rest : List X) → cmp z x ≡ Less → cmp z y ≡ Less → IsBelowAll z ys → IsBelowAll z rest → IsBelowAll z (by_order o (x ∷ y ∷ ys) (y ∷ ys) (y ∷ rest))
  below_by Less z x y ys rest e f h k = (e, (f, h))
  below_by Equal z x y ys rest e f h k = (f, h)
  below_by Greater z x y ys rest e f h k = (f, k)

  put_below : (z x : X) (ys : List X) → cmp z x ≡ Less → IsBelowAll z ys → IsBelowAll z (put cmp x ys)
  put_below z x [] e h = (e, tt)
  put_below z x (y ∷ ys) e h = below_by (cmp x y) z x y ys (put cmp x ys) e h.0 h.1 (put_below z x ys e h.1)

module _ {X : Type 0} (cmp : X → X → Ordering) (total : IsTotalOrder cmp) where
  -- no element is below itself, and no two are below each other
  not_itself : (x : X) → cmp x x ≡ Less → ⊥
  not_itself x e = let t = tied_itself total x in cc

  not_both : (x y : X) → cmp x y ≡ Less → cmp y x ≡ Less → ⊥
  not_both x y e f = not_itself x (total.trans x y x e f)

  turned : (x y : X) → cmp x y ≡ Greater → cmp y x ≡ Less
  turned x y e = let t = total.antisymm y x in t ∙ ap ordering_reverse e

  -- ascending lists that hold the same are equal
  head_same : (x y : X) (xs ys : List X) → IsAscending cmp (x ∷ xs) → IsAscending cmp (y ∷ ys) → HoldSame (x ∷ xs) (y ∷ ys) → x ≡ y
  head_same x y xs ys a b h =
      elim (in_cases y ys x ((h x).0 (in_head x xs))) [
        | inl e ↦ sym e
        | inr m ↦ elim (in_cases x xs y ((h y).1 (in_head y ys))) [
          | inl f ↦ f
          | inr n ↦ absurd (not_both x y (all_in (λ z. cmp x z ≡ Less) xs y (head_below cmp x xs a) n) (all_in (λ z. cmp y z ≡ Less) ys x (head_below cmp y ys b) m))
        ]
      ]

  tail_in : (x z : X) (xs ys : List X) → IsAscending cmp (x ∷ xs) → (Contains (x ∷ xs) z → Contains (x ∷ ys) z) → Contains xs z → Contains ys z
  tail_in x z xs ys a h m =
      elim (in_cases x ys z (h (in_tail x xs z m))) [
        | inl e ↦ absurd (not_itself x (subst (λ (w : X). cmp x w ≡ Less) (sym e) (all_in (λ w. cmp x w ≡ Less) xs z (head_below cmp x xs a) m)))
        | inr n ↦ n
      ]

  pub ascending_unique : (xs ys : List X) → IsAscending cmp xs → IsAscending cmp ys → HoldSame xs ys → xs ≡ ys
  ascending_unique [] [] a b h = refl
  ascending_unique [] (y ∷ ys) a b h = absurd (in_none y ((h y).1 (in_head y ys)))
  ascending_unique (x ∷ xs) [] a b h = absurd (in_none x ((h x).0 (in_head x xs)))
  ascending_unique (x ∷ xs) (y ∷ ys) a b h =
      let e = head_same x y xs ys a b h in
      let b' : IsAscending cmp (x ∷ ys) = subst (λ (w : X). IsAscending cmp (w ∷ ys)) (sym e) b in
      let h' : HoldSame (x ∷ xs) (x ∷ ys) = subst (λ (w : X). HoldSame (x ∷ xs) (w ∷ ys)) (sym e) h in
      let rest = ascending_unique xs ys (tail_ascends cmp x xs a) (tail_ascends cmp x ys b') (λ z. (tail_in x z xs ys a (h' z).0, tail_in x z ys xs b' (h' z).1)) in
      cc

  below_later : (x y : X) (ys : List X) → cmp x y ≡ Less → IsBelowAll cmp y ys → IsBelowAll cmp x ys
  below_later x y [] e h = tt
  below_later x y (z ∷ zs) e h = (total.trans x y z e h.0, below_later x y zs e h.1)

  put_by : (o : Ordering) (x y : X) (ys rest : List X) → cmp x y ≡ o → IsAscending cmp (y ∷ ys) → IsAscending cmp rest → (cmp y x ≡ Less → IsBelowAll cmp y rest) → IsAscending cmp (by_order o (x ∷ y ∷ ys) (y ∷ ys) (y ∷ rest))
  put_by Less x y ys rest e a r f = ascends cmp x (y ∷ ys) (e, below_later x y ys e (head_below cmp y ys a)) a
  put_by Equal x y ys rest e a r f = a
  put_by Greater x y ys rest e a r f = ascends cmp y rest (f (turned x y e)) r

  pub put_ascends : (x : X) (ys : List X) → IsAscending cmp ys → IsAscending cmp (put cmp x ys)
  put_ascends x [] a = ascends cmp x [] tt (nothing_ascends cmp)
  put_ascends x (y ∷ ys) a =
      put_by (cmp x y) x y ys (put cmp x ys) refl a (put_ascends x ys (tail_ascends cmp y ys a)) (λ e. put_below cmp y x ys e (head_below cmp y ys a))

  pub ascending_ascends : (xs : List X) → IsAscending cmp (ascending cmp xs)
  ascending_ascends [] = nothing_ascends cmp
  ascending_ascends (x ∷ xs) = put_ascends x (ascending cmp xs) (ascending_ascends xs)

  -- what ascends has no element twice
  pub apart_from_ascending : (xs : List X) → IsAscending cmp xs → AreApart xs
  apart_from_ascending [] a = tt
  apart_from_ascending (x ∷ xs) a = (
    λ m. not_itself x (all_in (λ y. cmp x y ≡ Less) xs x (head_below cmp x xs a) m),
    apart_from_ascending xs (tail_ascends cmp x xs a),
  )

  pub ascending_apart : (xs : List X) → AreApart (ascending cmp xs)
  ascending_apart xs = apart_from_ascending (ascending cmp xs) (ascending_ascends xs)

module _ {X : Type 0} (cmp : X → X → Ordering) (total : IsTotalOrder cmp) (same : (x y : X) → cmp x y ≡ Equal → x ≡ y) where
  -- what is in a list with one more
  in_by : (o : Ordering) (x y z : X) (ys rest : List X) → cmp x y ≡ o → ((x ≡ z) ⊎ Contains ys z → Contains rest z) → (x ≡ z) ⊎ Contains (y ∷ ys) z → Contains (by_order o (x ∷ y ∷ ys) (y ∷ ys) (y ∷ rest)) z
  in_by Less x y z ys rest e f (inl h) = subst (λ (w : X). Contains (x ∷ y ∷ ys) w) h (in_head x (y ∷ ys))
  in_by Less x y z ys rest e f (inr m) = in_tail x (y ∷ ys) z m
  in_by Equal x y z ys rest e f (inl h) = subst (λ (w : X). Contains (y ∷ ys) w) (sym (same x y e) ∙ h) (in_head y ys)
  in_by Equal x y z ys rest e f (inr m) = m
  in_by Greater x y z ys rest e f (inl h) = in_tail y rest z (f (inl h))
  in_by Greater x y z ys rest e f (inr m) =
      elim (in_cases y ys z m) [ inl g ↦ subst (λ (w : X). Contains (y ∷ rest) w) g (in_head y rest) | inr n ↦ in_tail y rest z (f (inr n)) ]

  pub put_in : (x z : X) (ys : List X) → (x ≡ z) ⊎ Contains ys z → Contains (put cmp x ys) z
  put_in x z [] (inl h) = subst (λ (w : X). Contains (x ∷ []) w) h (in_head x [])
  put_in x z [] (inr m) = absurd (in_none z m)
  put_in x z (y ∷ ys) h = in_by (cmp x y) x y z ys (put cmp x ys) refl (put_in x z ys) h

  from_by : (o : Ordering) (x y z : X) (ys rest : List X) → (Contains rest z → (x ≡ z) ⊎ Contains ys z) → Contains (by_order o (x ∷ y ∷ ys) (y ∷ ys) (y ∷ rest)) z → (x ≡ z) ⊎ Contains (y ∷ ys) z
  from_by Less x y z ys rest f m = in_cases x (y ∷ ys) z m
  from_by Equal x y z ys rest f m = inr m
  from_by Greater x y z ys rest f m =
      elim (in_cases y rest z m) [
        | inl e ↦ inr (subst (λ (w : X). Contains (y ∷ ys) w) e (in_head y ys))
        | inr n ↦ elim (f n) [ inl e ↦ inl e | inr k ↦ inr (in_tail y ys z k) ]
      ]

  pub from_put : (x z : X) (ys : List X) → Contains (put cmp x ys) z → (x ≡ z) ⊎ Contains ys z
  from_put x z [] m = in_cases x [] z m
  from_put x z (y ∷ ys) m = from_by (cmp x y) x y z ys (put cmp x ys) (from_put x z ys) m

  pub ascending_holds : (xs : List X) → HoldSame (ascending cmp xs) xs
  ascending_holds [] = λ z. (λ m. m, λ m. m)
  ascending_holds (x ∷ xs) = λ z. (
    λ m. elim (from_put x z (ascending cmp xs) m) [ inl e ↦ subst (λ (w : X). Contains (x ∷ xs) w) e (in_head x xs) | inr n ↦ in_tail x xs z ((ascending_holds xs z).0 n) ],
    λ m. put_in x z (ascending cmp xs) (elim (in_cases x xs z m) [ inl e ↦ inl e | inr n ↦ inr ((ascending_holds xs z).1 n) ]),
  )

  -- an ascending list that holds the same is the one
  pub ascending_is : (xs ys : List X) → IsAscending cmp ys → HoldSame ys xs → ys ≡ ascending cmp xs
  ascending_is xs ys a h =
      ascending_unique cmp total ys (ascending cmp xs) a (ascending_ascends cmp total xs) (same_trans ys xs (ascending cmp xs) h (same_sym (ascending cmp xs) xs (ascending_holds xs)))

  -- neither order nor repeats matter
  pub ascending_same : (xs ys : List X) → HoldSame xs ys → ascending cmp xs ≡ ascending cmp ys
  ascending_same xs ys h = ascending_is ys (ascending cmp xs) (ascending_ascends cmp total xs) (same_trans (ascending cmp xs) xs ys (ascending_holds xs) h)

  -- all else does
  pub same_ascending : (xs ys : List X) → ascending cmp xs ≡ ascending cmp ys → HoldSame xs ys
  same_ascending xs ys e =
      same_trans xs (ascending cmp xs) ys (same_sym (ascending cmp xs) xs (ascending_holds xs))
      (same_trans (ascending cmp xs) (ascending cmp ys) ys (same_from_equal (ascending cmp xs) (ascending cmp ys) e) (ascending_holds ys))

  -- what ascends stays as it is
  pub ascending_again : (xs : List X) → IsAscending cmp xs → ascending cmp xs ≡ xs
  ascending_again xs a = sym (ascending_is xs xs a (hold_same xs))

  put_length_by : (o : Ordering) (x y : X) (ys rest : List X) → cmp x y ≡ o → (Contains (y ∷ ys) x → ⊥) → length rest ≡ suc (length ys) → length (by_order o (x ∷ y ∷ ys) (y ∷ ys) (y ∷ rest)) ≡ suc (length (y ∷ ys))
  put_length_by Less x y ys rest e out h = refl
  put_length_by Equal x y ys rest e out h = absurd (out (subst (λ (w : X). Contains (y ∷ ys) w) (sym (same x y e)) (in_head y ys)))
  put_length_by Greater x y ys rest e out h = ap suc h

  put_length : (x : X) (ys : List X) → (Contains ys x → ⊥) → length (put cmp x ys) ≡ suc (length ys)
  put_length x [] out = refl
  put_length x (y ∷ ys) out = put_length_by (cmp x y) x y ys (put cmp x ys) refl out (put_length x ys (λ m. out (in_tail y ys x m)))

  -- where no element stands twice, none is lost
  pub apart_length : (xs : List X) → AreApart xs → length (ascending cmp xs) ≡ length xs
  apart_length [] h = refl
  apart_length (x ∷ xs) h = put_length x (ascending cmp xs) (λ m. h.0 ((ascending_holds xs x).0 m)) ∙ ap suc (apart_length xs h.1)

  -- a list that holds the same, and no element twice, is as long
  pub apart_as_long : (xs ys : List X) → HoldSame xs ys → AreApart ys → length (ascending cmp xs) ≡ length ys
  apart_as_long xs ys h a = ap length (ascending_same xs ys h) ∙ apart_length ys a

-- what is true of all of a list is true of all of it in order
module _ {X : Type 0} (P : X → Type 0) (cmp : X → X → Ordering) where
  all_by : (o : Ordering) (x y : X) (ys rest : List X) → P x → P y → AllByRecursion P ys → AllByRecursion P rest → AllByRecursion P (by_order o (x ∷ y ∷ ys) (y ∷ ys) (y ∷ rest))
  all_by Less x y ys rest p q h k = (p, (q, h))
  all_by Equal x y ys rest p q h k = (q, h)
  all_by Greater x y ys rest p q h k = (q, k)

  pub all_put : (x : X) (ys : List X) → P x → AllByRecursion P ys → AllByRecursion P (put cmp x ys)
  all_put x [] p h = (p, tt)
  all_put x (y ∷ ys) p h = all_by (cmp x y) x y ys (put cmp x ys) p h.0 h.1 (all_put x ys p h.1)

  pub all_ascending : (xs : List X) → AllByRecursion P xs → AllByRecursion P (ascending cmp xs)
  all_ascending [] h = tt
  all_ascending (x ∷ xs) h = all_put x (ascending cmp xs) h.0 (all_ascending xs h.1)

-- a function that keeps the order of the elements of a list may go before or after the arranging
module _ {X Y : Type 0} (f : X → Y) (cmp : X → X → Ordering) (other : Y → Y → Ordering) (P : X → Type 0) (keeps : (x y : X) → P x → P y → cmp x y ≡ other (f x) (f y)) where
  map_by : (o : Ordering) (x y : X) (ys rest : List X) → map f (by_order o (x ∷ y ∷ ys) (y ∷ ys) (y ∷ rest)) ≡ by_order o (f x ∷ f y ∷ map f ys) (f y ∷ map f ys) (f y ∷ map f rest)
  map_by Less x y ys rest = refl
  map_by Equal x y ys rest = refl
  map_by Greater x y ys rest = refl

  map_put : (x : X) (ys : List X) → P x → AllByRecursion P ys → map f (put cmp x ys) ≡ put other (f x) (map f ys)
  map_put x [] p h = refl
  map_put x (y ∷ ys) p h =
      map_by (cmp x y) x y ys (put cmp x ys)
      ∙ ap (λ (o : Ordering). by_order o (f x ∷ f y ∷ map f ys) (f y ∷ map f ys) (f y ∷ map f (put cmp x ys))) (keeps x y p h.0)
      ∙ ap (λ (zs : List Y). by_order (other (f x) (f y)) (f x ∷ f y ∷ map f ys) (f y ∷ map f ys) (f y ∷ zs)) (map_put x ys p h.1)

  pub map_ascending : (xs : List X) → AllByRecursion P xs → map f (ascending cmp xs) ≡ ascending other (map f xs)
  map_ascending [] h = refl
  map_ascending (x ∷ xs) h = map_put x (ascending cmp xs) h.0 (all_ascending P cmp xs h.1) ∙ ap (put other (f x)) (map_ascending xs h.1)
