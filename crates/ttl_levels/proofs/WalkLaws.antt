-- Walks through an order of nodes, from either end: what is known of the nodes that were passed.
use Rattle.std.specs.Prelude.{◌≡◌, ◌⊎◌, ◌<◌, ◌+◌, ℕ, zero, suc, false, true, nat_eq, List, [], ◌∷◌, ◌++◌, Contains, length, slice_index, slice_set}
use Rattle.std.specs.List.{AllByRecursion, IsDistinct, range_with_len}
use Rattle.std.proofs.Common.{inl, inr, refl, sym, ap, ◌∙◌, subst, arith}
use Rattle.std.proofs.lemmas.Bool.{both_ways, ne_eqb}
use Rattle.std.proofs.lemmas.List.{append-nil, append_assoc, get_or-set_other, get_or-set_same, length-set}
use Rattle.std.proofs.lemmas.Map.Keys.{IsDistinct-IsPermutation}
use Rattle.std.proofs.lemmas.Option.{slice_get_within}
use Rattle.owl_list.proofs.AscendingLaws.{all_in, in_cases, in_head, in_none, in_tail}
use Rattle.rdf_graph.specs.declared.triple.Triple.{Triple}
use Rattle.rdf_roles.proofs.NotedUnder.{same_or_not}
use Rattle.rdf_roles.specs.OrderLaws.{front_is_closed, is_node, leads_to_front}
use Rattle.rdf_roles.specs.Tables.{IsNodeOrder, LeadsBetween, blank_nodes}

-- parts of lists

pub from_parts : {X : Type 0} (xs ys : List X) (x : X) → Contains (xs ++ ys) x → Contains xs x ⊎ Contains ys x
from_parts [] ys x m = inr m
from_parts (y ∷ xs) ys x m = elim (in_cases y (xs ++ ys) x m) as (λ _. Contains (y ∷ xs) x ⊎ Contains ys x) [
  | inl e ↦ inl (subst (Contains (y ∷ xs)) e (in_head y xs))
  | inr k ↦ elim (from_parts xs ys x k) as (λ _. Contains (y ∷ xs) x ⊎ Contains ys x) [ inl n ↦ inl (in_tail y xs x n) | inr n ↦ inr n ]
]

pub in_second : {X : Type 0} (xs ys : List X) (x : X) → Contains ys x → Contains (xs ++ ys) x
in_second [] ys x m = m
in_second (y ∷ xs) ys x m = in_tail y (xs ++ ys) x (in_second xs ys x m)

-- no number stands twice in an order

range_above : (a b n : ℕ) → a < b → AllByRecursion (λ y. nat_eq a y ≡ false) (range_with_len b n)
range_above a b zero h = tt
range_above a b (suc n) h = (ne_eqb a b (λ e. omega (arith, h, e)), range_above a (b + 1) n (omega (arith, h)))

range_distinct : (a n : ℕ) → IsDistinct nat_eq (range_with_len a n)
unfolding IsDistinct
range_distinct a zero = tt
range_distinct a (suc n) = (range_above a (a + 1) n (omega arith), range_distinct (a + 1) n)

flips : (x y : ℕ) → nat_eq x y ≡ nat_eq y x
flips x y = grind arith

order_distinct : (g : List Triple) (order : List ℕ) → IsNodeOrder g order → IsDistinct nat_eq order
order_distinct g order is = IsDistinct-IsPermutation nat_eq flips (range_with_len 0 (length is.edges)) order is.is_order.all (range_distinct 0 (length is.edges))

not_in_front : (front passed : List ℕ) (number : ℕ) → IsDistinct nat_eq (front ++ number ∷ passed) → Contains front number → ⊥
unfolding IsDistinct
not_in_front [] passed number apart m = in_none number m
not_in_front (n ∷ front) passed number apart m = elim (in_cases n front number m) as (λ _. ⊥) [
  | inl e ↦ both_ways (nat_eq n number) (all_in (λ y. nat_eq n y ≡ false) (front ++ number ∷ passed) number apart.0 (in_second front (number ∷ passed) number (in_head number passed))) (same_number n number e)
  | inr k ↦ not_in_front front passed number apart.1 k
]
  where
    same_number : (i j : ℕ) → i ≡ j → nat_eq i j ≡ true
    same_number i j e = grind (arith, e)

-- the node that leads to one stands behind it
pub stands_behind : (g : List Triple) (order front passed : List ℕ) (number over : ℕ) → IsNodeOrder g order → order ≡ front ++ number ∷ passed → Contains order over → LeadsBetween g over number → Contains passed over
stands_behind g order front passed number over is split m leads =
    let apart = subst (IsDistinct nat_eq) split (order_distinct g order is) in
    elim (from_parts front (number ∷ passed) over (subst (λ (xs : List ℕ). Contains xs over) split m)) as (λ _. Contains passed over) [
      | inl f ↦ absurd (not_in_front front passed number apart (front_is_closed g order is front (number ∷ passed) split over number f leads))
      | inr k ↦ elim (in_cases number passed over k) as (λ _. Contains passed over) [
        | inl e ↦ absurd (not_in_front front passed number apart (leads_to_front g order is front number passed split number (subst (λ (n : ℕ). LeadsBetween g n number) (sym e) leads)))
        | inr p ↦ p
      ]
    ]

module _ (P : ℕ → ℕ → Type 0) where
  abbrev pub AreKnown : List ℕ → List ℕ → Type 0
  AreKnown values passed = (number : ℕ) → Contains passed number → P number (slice_index values number)

  pub known_after : (values passed more : List ℕ) (number n : ℕ) → number < length values → ((k : ℕ) → Contains more k → Contains passed k ⊎ (number ≡ k)) → P number n → AreKnown values passed → AreKnown (slice_set values number n) more
  known_after values passed more number n within from is known k m = elim (same_or_not number k) as (λ _. P k (slice_index (slice_set values number n) k)) [
    | inl e ↦
        subst (λ j. P j (slice_index (slice_set values number n) j)) e
        (subst (P number) (sym (get_or-set_same values number n 0 within)) is)
    | inr o ↦ elim (from k m) as (λ _. P k (slice_index (slice_set values number n) k)) [
      | inl p ↦ subst (P k) (sym (get_or-set_other values number k n 0 (λ e. o (sym e)))) (known k p)
      | inr e ↦ absurd (o e)
    ]
  ]

  -- from the front
  pub record IsForward (g : List Triple) (order values left : List ℕ) : Type 0 where
    pub passed : List ℕ
    pub split : order ≡ passed ++ left
    pub size : length values ≡ length (blank_nodes g)
    pub known : AreKnown values passed

  -- from the end
  pub record IsBackward (g : List Triple) (order values left : List ℕ) : Type 0 where
    pub passed : List ℕ
    pub split : order ≡ left ++ passed
    pub size : length values ≡ length (blank_nodes g)
    pub known : AreKnown values passed

  module _ (g : List Triple) (order : List ℕ) (is : IsNodeOrder g order) where
    pub forward_first : (values : List ℕ) → length values ≡ length (blank_nodes g) → IsForward g order values order
    forward_first values size = record { passed = []; split = refl; size = size; known = λ number m. absurd (in_none number m) }

    pub backward_first : (values : List ℕ) → length values ≡ length (blank_nodes g) → IsBackward g order values order
    backward_first values size = record { passed = []; split = sym (append-nil order); size = size; known = λ number m. absurd (in_none number m) }

    module _ (values left : List ℕ) (number : ℕ) (behind : List ℕ) (w : IsForward g order values left) (ahead : left ≡ number ∷ behind) where
      forward_split : order ≡ w.passed ++ number ∷ behind
      forward_split = w.split ∙ ap (λ (xs : List ℕ). w.passed ++ xs) ahead

      pub forward_within : number < length values
      forward_within = subst (λ n. number < n) (sym w.size) (is_node g order is number (subst (λ (xs : List ℕ). Contains xs number) (sym forward_split) (in_second w.passed (number ∷ behind) number (in_head number behind))))

      pub forward_below : (next : ℕ) → LeadsBetween g number next → P next (slice_index values next)
      forward_below next leads = w.known next (leads_to_front g order is w.passed number behind forward_split next leads)

      pub forward_next : (n : ℕ) → P number n → IsForward g order (slice_set values number n) behind
      forward_next n p = record {
        passed = w.passed ++ number ∷ [];
        split = forward_split ∙ sym (append_assoc w.passed (number ∷ []) behind);
        size = length-set values number n ∙ w.size;
        known =
            known_after values w.passed (w.passed ++ number ∷ []) number n forward_within
            (λ k m. elim (from_parts w.passed (number ∷ []) k m) as (λ _. Contains w.passed k ⊎ (number ≡ k)) [
              | inl f ↦ inl f
              | inr l ↦ elim (in_cases number [] k l) as (λ _. Contains w.passed k ⊎ (number ≡ k)) [ inl e ↦ inr e | inr none ↦ absurd (in_none k none) ]
            ]) p w.known;
      }

    module _ (values left front : List ℕ) (number : ℕ) (w : IsBackward g order values left) (ahead : left ≡ front ++ number ∷ []) where
      backward_split : order ≡ front ++ number ∷ w.passed
      backward_split = w.split ∙ ap (λ (xs : List ℕ). xs ++ w.passed) ahead ∙ append_assoc front (number ∷ []) w.passed

      pub backward_within : number < length values
      backward_within = subst (λ n. number < n) (sym w.size) (is_node g order is number (subst (λ (xs : List ℕ). Contains xs number) (sym backward_split) (in_second front (number ∷ w.passed) number (in_head number w.passed))))

      pub backward_above : ((over : ℕ) → over < length (blank_nodes g) → Contains order over) → (over : ℕ) → LeadsBetween g over number → P over (slice_index values over)
      backward_above all over leads =
          w.known over (stands_behind g order front w.passed number over is backward_split (all over (slice_get_within (blank_nodes g) over leads.from leads.from_at)) leads)

      pub backward_next : (n : ℕ) → P number n → IsBackward g order (slice_set values number n) front
      backward_next n p = record {
        passed = number ∷ w.passed;
        split = backward_split;
        size = length-set values number n ∙ w.size;
        known =
            known_after values w.passed (number ∷ w.passed) number n backward_within
            (λ k m. elim (in_cases number w.passed k m) as (λ _. Contains w.passed k ⊎ (number ≡ k)) [ inl e ↦ inr e | inr p ↦ inl p ]) p w.known;
      }

    pub forward_last : (values left : List ℕ) → length left ≡ 0 → IsForward g order values left → (number : ℕ) → Contains order number → P number (slice_index values number)
    forward_last values [] e w number m = w.known number (subst (λ (xs : List ℕ). Contains xs number) (w.split ∙ append-nil w.passed) m)
    forward_last values (n ∷ left) e w number m = absurd (omega (arith, e))

    pub backward_last : (values left : List ℕ) → length left ≡ 0 → IsBackward g order values left → (number : ℕ) → Contains order number → P number (slice_index values number)
    backward_last values [] e w number m = w.known number (subst (λ (xs : List ℕ). Contains xs number) w.split m)
    backward_last values (n ∷ left) e w number m = absurd (omega (arith, e))
