-- Facts that hold or don't hold, so that one that isn't refuted holds.
use Rattle.std.specs.Prelude.{◌≡◌, ◌⊎◌, ℕ, Bool, true, nat_eq, List, [], ◌∷◌, Contains, length}
use Rattle.std.specs.List.{AllByRecursion}
use Rattle.std.proofs.Common.{inl, inr, sym, subst, arith}
use Rattle.std.proofs.lemmas.Bool.{both_ways, cases_Bool, eq-eqb, eqb-true}
use Rattle.owl_list.proofs.AscendingLaws.{in_cases, in_head, in_none, in_tail}
use Rattle.rdf_graph.specs.declared.term.Term.{Term}
use Rattle.rdf_meaning.proofs.ListLaws.{nothing_else, same_front}
use Rattle.rdf_meaning.specs.declared.role.Role.{Role}
use Rattle.rdf_meaning.specs.Nodes.{is_role, is_same}
use Rattle.rdf_meaning.proofs.NodeLaws.{own_term, same_term}
use Rattle.rdf_meaning.proofs.RowLaws.{own_role, same_role}

abbrev pub Decided : Type 0 → Type 0
Decided A = A ⊎ (A → ⊥)

pub stable : {A : Type 0} → Decided A → ((A → ⊥) → ⊥) → A
stable (inl a) n = a
stable (inr m) n = absurd (n m)

pub decided_by : {A B : Type 0} → (A → B) → (B → A) → Decided A → Decided B
decided_by there back (inl a) = inl (there a)
decided_by there back (inr n) = inr (λ b. n (back b))

pub decided_both : {A B : Type 0} → Decided A → Decided B → Decided (A × B)
decided_both (inl a) (inl b) = inl (a, b)
decided_both (inl a) (inr n) = inr (λ p. n p.1)
decided_both (inr n) d = inr (λ p. n p.0)

pub decided_three : {A B C : Type 0} → Decided A → Decided B → Decided C → Decided (A × B × C)
decided_three a b c = decided_by (λ p. (p.0.0, p.0.1, p.1)) (λ p. ((p.0, p.1), p.2)) (decided_both (decided_both a b) c)

pub decided_either : {A B : Type 0} → Decided A → Decided B → Decided (A ⊎ B)
decided_either (inl a) d = inl (inl a)
decided_either (inr n) (inl b) = inl (inr b)
decided_either (inr n) (inr m) = inr (λ s. elim s [ inl a ↦ n a | inr b ↦ m b ])

pub decided_if : {A B : Type 0} → Decided A → Decided B → Decided (A → B)
decided_if (inl a) (inl b) = inl (λ x. b)
decided_if (inl a) (inr n) = inr (λ f. n (f a))
decided_if (inr n) d = inl (λ a. absurd (n a))

pub decided_not : {A : Type 0} → Decided A → Decided (A → ⊥)
decided_not (inl a) = inr (λ n. n a)
decided_not (inr n) = inl n

pub decided_test : (b : Bool) → Decided (b ≡ true)
decided_test b = elim (cases_Bool b) [ inl t ↦ inl t | inr f ↦ inr (λ t. both_ways b f t) ]

pub decided_number : (m n : ℕ) → Decided (m ≡ n)
decided_number m n = decided_by (λ t. eqb-true m n t) (λ e. eq-eqb m n e) (decided_test (nat_eq m n))

pub decided_term : (a b : Term) → Decided (a ≡ b)
decided_term a b =
    decided_by (same_term a b) (λ e. subst (λ c. is_same a c ≡ true) e (own_term a)) (decided_test (is_same a b))

pub decided_role : (a b : Role) → Decided (a ≡ b)
decided_role a b = decided_by (same_role a b) (λ e. subst (λ c. is_role a c ≡ true) e (own_role a)) (decided_test (is_role a b))

-- over a list

module _ {X : Type 0} (P : X → Type 0) where
  pub record HasSome (xs : List X) : Type 0 where
    pub element : X
    pub inside : Contains xs element
    pub holds : P element

  pub decided_each : (xs : List X) → ((x : X) → Decided (P x)) → Decided (AllByRecursion P xs)
  decided_each [] d = inl tt
  decided_each (x ∷ xs) d = decided_both (d x) (decided_each xs d)

  later : (x : X) (xs : List X) → HasSome xs → HasSome (x ∷ xs)
  later x xs s = record { element = s.element; inside = in_tail x xs s.element s.inside; holds = s.holds }

  pub decided_some_of : (xs : List X) → ((x : X) → Contains xs x → Decided (P x)) → Decided (HasSome xs)
  decided_some_of [] d = inr (λ s. in_none s.element s.inside)
  decided_some_of (x ∷ xs) d =
      elim (d x (in_head x xs)) [
        | inl p ↦ inl (record { element = x; inside = in_head x xs; holds = p })
        | inr n ↦
            elim (decided_some_of xs (λ y m. d y (in_tail x xs y m))) [
              | inl s ↦ inl (later x xs s)
              | inr m ↦
                  inr (λ s.
                  elim (in_cases x xs s.element s.inside) [
                    | inl e ↦ n (subst P (sym e) s.holds)
                    | inr i ↦ m (record { element = s.element; inside = i; holds = s.holds })
                  ])
            ]
      ]

  pub decided_some : (xs : List X) → ((x : X) → Decided (P x)) → Decided (HasSome xs)
  decided_some xs d = decided_some_of xs (λ x m. d x)

-- the list has one element
pub record IsOnly {X : Type 0} (xs : List X) : Type 0 where
  pub only : X
  pub one : xs ≡ only ∷ []

pub decided_only : {X : Type 0} (xs : List X) → Decided (IsOnly xs)
decided_only [] = inr (λ o. nothing_else o.only [] o.one)
decided_only (x ∷ []) = inl (record { only = x; one = λ i. x ∷ [] })
decided_only (x ∷ y ∷ more) = inr (λ o. nothing_else y more (sym (same_front x o.only (y ∷ more) [] o.one).1))

many_more : {X : Type 0} (x y : X) (xs : List X) → length (x ∷ y ∷ xs) ≡ 1 → ⊥
many_more x y xs e = omega (arith, e)

pub only_of_length : {X : Type 0} (xs : List X) → length xs ≡ 1 → IsOnly xs
only_of_length [] e = cc
only_of_length (x ∷ []) e = record { only = x; one = λ i. x ∷ [] }
only_of_length (x ∷ y ∷ xs) e = absurd (many_more x y xs e)
