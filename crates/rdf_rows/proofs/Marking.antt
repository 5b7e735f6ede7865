-- A node becomes what it is by its marks, one after the other.
use Rattle.std.specs.Prelude.{◌≡◌, ◌↔◌, suc, Bool, true, false, not, ◌&&◌, ◌||◌, cond, nat_eq, nat_le, nat_lt, List, [], ◌∷◌, ◌++◌, length, Option, None, Some}
use Rattle.std.specs.Bool.{one_answer}
use Rattle.std.specs.List.{filter, list_all, list_any}
use Rattle.std.proofs.Common.{arith, inl, inr, refl, sym, ap, ◌∙◌, subst}
use Rattle.std.proofs.lemmas.Bool.{and_parts, both_ways, cases_Bool, cond-false, cond-true, eq-eqb, le-leb, le-ltb, ltb-true, ne_eqb, or_cases}
use Rattle.std.proofs.lemmas.List.Folds.{list_any-append}
use Rattle.std.proofs.Math.Dec.{leb-suc-suc}
use Rattle.rdf_graph.specs.declared.triple.Triple.{Triple}
use Rattle.rdf_meaning.specs.declared.role.Role.{Role}
use Rattle.rdf_meaning.specs.declared.role.Role.TheVariants as role
use Rattle.rdf_meaning.specs.Nodes.{first_role, is_role, marked_roles, marks_role}
use Rattle.rdf_meaning.proofs.RowLaws.{same_role}
use Rattle.rdf_rows.specs.declared.roles.Marked.{Marked}
use Rattle.rdf_rows.specs.Roles.{is_the_role, role_rank, roles_in, with_mark}
use Rattle.rdf_rows.proofs.Marks.{or_false, the_role}

or_true : (b : Bool) → (b || true) ≡ true
or_true true = refl
or_true false = refl

-- what a node of these roles is
abbrev pub made_of : List Role → Marked
made_of rs = record { role = first_role rs; mixed = nat_le 2 (length rs) }

-- the role comes later, and is none of an individual
later : Role → Role → Bool
later x y = nat_lt (role_rank x) (role_rank y) && nat_lt (role_rank y) 8

is_up : List Role → Bool
is_up [] = true
is_up (x ∷ xs) = nat_lt (role_rank x) 8 && list_all (later x) xs && is_up xs

all_up : is_up marked_roles ≡ true
unfolding is_up later role_rank
all_up = refl

-- one more role in front of those that come later
begins : (x : Role) (rs : List Role) → nat_lt (role_rank x) 8 ≡ true → list_all (later x) rs ≡ true → made_of (x ∷ rs) ≡ with_mark (made_of rs) x
unfolding later role_rank
begins x [] known h = λ i. record { role = sym (cond-true (nat_lt (role_rank x) 8) x role.Individual known) i; mixed = false }
begins x (y ∷ rs) known h =
    let parts = and_parts (nat_lt (role_rank x) (role_rank y)) (nat_lt (role_rank y) 8) (and_parts (later x y) (list_all (later x) rs) h).0 in
    let apart : nat_eq (role_rank y) (role_rank x) ≡ false = ne_eqb (role_rank y) (role_rank x) (λ e. let lt = ltb-true (role_rank x) (role_rank y) parts.0 in omega arith) in
    let two : nat_le 2 (suc (suc (length rs))) ≡ true = le-leb 2 (suc (suc (length rs))) (omega arith) in
    let one = nat_le 2 (suc (length rs)) in
    λ i. record {
      role = sym (cond-true (nat_lt (role_rank x) (role_rank y)) x y parts.0) i;
      mixed = (two ∙ sym (or_true one) ∙ sym (λ j. one || (parts.1 j && not (apart j)))) i;
    }

kept_all : (test p : Role → Bool) (xs : List Role) → list_all test xs ≡ true → list_all test (filter p xs) ≡ true
kept_all test p [] h = refl
kept_all test p (x ∷ xs) h =
    let parts = and_parts (test x) (list_all test xs) h in
    let rest = kept_all test p xs parts.1 in
    elim (cases_Bool (p x)) [
      | inl t ↦ ap (list_all test) (cond-true (p x) (x ∷ filter p xs) (filter p xs) t) ∙ (λ i. parts.0 i && rest i)
      | inr f ↦ ap (list_all test) (cond-false (p x) (x ∷ filter p xs) (filter p xs) f) ∙ rest
    ]

-- one more mark
module _ (m : Role) (p q : Role → Bool) (adds : (r : Role) → q r ≡ (p r || is_role m r)) where
  same_kept : (xs : List Role) → list_any (is_role m) xs ≡ false → filter q xs ≡ filter p xs
  same_kept [] h = refl
  same_kept (x ∷ xs) h =
      elim (cases_Bool (is_role m x)) [
        | inl t ↦ absurd (both_ways _ h (λ i. t i || list_any (is_role m) xs))
        | inr f ↦
            let same : q x ≡ p x = adds x ∙ ap (λ b. p x || b) f ∙ or_false (p x) in
            let rest = same_kept xs (sym (λ i. f i || list_any (is_role m) xs) ∙ h) in
            λ i. cond (same i) (x ∷ rest i) (rest i)
      ]

  some_kept : (xs : List Role) → list_any (is_role m) xs ≡ true → nat_le 1 (length (filter q xs)) ≡ true
  some_kept [] h = cc
  some_kept (x ∷ xs) h =
      elim (cases_Bool (q x)) [
        | inl t ↦
            ap (λ ys. nat_le 1 (length ys)) (cond-true (q x) (x ∷ filter q xs) (filter q xs) t)
            ∙ le-leb 1 (suc (length (filter q xs))) (omega arith)
        | inr f ↦
            ap (λ ys. nat_le 1 (length ys)) (cond-false (q x) (x ∷ filter q xs) (filter q xs) f)
            ∙ some_kept xs (elim (or_cases (is_role m x) (list_any (is_role m) xs) h) [
              | inl t ↦ absurd (both_ways (q x) f (adds x ∙ ap (λ b. p x || b) t ∙ or_true (p x)))
              | inr k ↦ k
            ])
      ]

  among_later : (x : Role) (xs : List Role) → list_all (later x) xs ≡ true → list_any (is_role m) xs ≡ true → later x m ≡ true
  among_later x [] h k = cc
  among_later x (y ∷ xs) h k =
      let parts = and_parts (later x y) (list_all (later x) xs) h in
      elim (or_cases (is_role m y) (list_any (is_role m) xs) k) [
        | inl t ↦ subst (λ z. later x z ≡ true) (sym (same_role m y t)) parts.0
        | inr n ↦ among_later x xs parts.1 n
      ]

  after_itself : (xs : List Role) → list_all (later m) xs ≡ true → list_any (is_role m) xs ≡ false
  unfolding later
  after_itself xs h =
      elim (cases_Bool (list_any (is_role m) xs)) [
        | inl t ↦
            let lt = ltb-true (role_rank m) (role_rank m) (and_parts (nat_lt (role_rank m) (role_rank m)) (nat_lt (role_rank m) 8) (among_later m xs h t)).0 in
            absurd (omega arith)
        | inr f ↦ f
      ]

  -- a role that stands before all others of the node
  first_stays : (x : Role) (xs : List Role) → nat_lt (role_rank x) 8 ≡ true → list_all (later x) xs ≡ true → list_any (is_role m) (x ∷ xs) ≡ true →
      made_of (x ∷ filter q xs) ≡ with_mark (made_of (x ∷ filter p xs)) m
  unfolding later
  first_stays x xs known h k =
      let old = nat_le 2 (suc (length (filter p xs))) in
      elim (cases_Bool (is_role m x)) [
        | inl t ↦
            let is : m ≡ x = same_role m x t in
            let none = after_itself xs (subst (λ y. list_all (later y) xs ≡ true) (sym is) h) in
            let tie : nat_eq (role_rank x) (role_rank m) ≡ true = eq-eqb (role_rank x) (role_rank m) (ap role_rank (sym is)) in
            let low : nat_lt (role_rank m) (role_rank x) ≡ false = le-ltb (role_rank m) (role_rank x) (let e = ap role_rank is in omega arith) in
            λ i. record {
              role = sym (cond-false (nat_lt (role_rank m) (role_rank x)) m x low) i;
              mixed = (ap (λ ys. nat_le 2 (suc (length ys))) (same_kept xs none) ∙ sym (or_false old) ∙ sym (λ j. old || (known j && not (tie j)))) i;
            }
        | inr f ↦
            let inside = sym (λ i. f i || list_any (is_role m) xs) ∙ k in
            let lt = ltb-true (role_rank x) (role_rank m) (and_parts (nat_lt (role_rank x) (role_rank m)) (nat_lt (role_rank m) 8) (among_later x xs h inside)).0 in
            let apart : nat_eq (role_rank x) (role_rank m) ≡ false = ne_eqb (role_rank x) (role_rank m) (λ e. omega arith) in
            let low : nat_lt (role_rank m) (role_rank x) ≡ false = le-ltb (role_rank m) (role_rank x) (omega arith) in
            λ i. record {
              role = sym (cond-false (nat_lt (role_rank m) (role_rank x)) m x low) i;
              mixed = (leb-suc-suc 1 (length (filter q xs)) ∙ some_kept xs inside ∙ sym (or_true old) ∙ sym (λ j. old || (known j && not (apart j)))) i;
            }
      ]

  adds_mark : (xs : List Role) → is_up xs ≡ true → list_any (is_role m) xs ≡ true → made_of (filter q xs) ≡ with_mark (made_of (filter p xs)) m
  unfolding is_up
  adds_mark [] up k = cc
  adds_mark (x ∷ xs) up k =
      let parts = and_parts (nat_lt (role_rank x) 8 && list_all (later x) xs) (is_up xs) up in
      let head = and_parts (nat_lt (role_rank x) 8) (list_all (later x) xs) parts.0 in
      let from_p : (b : Bool) → p x ≡ b → filter p (x ∷ xs) ≡ cond b (x ∷ filter p xs) (filter p xs) = λ b e. ap (λ (c : Bool). cond c (x ∷ filter p xs) (filter p xs)) e in
      let from_q : (b : Bool) → q x ≡ b → filter q (x ∷ xs) ≡ cond b (x ∷ filter q xs) (filter q xs) = λ b e. ap (λ (c : Bool). cond c (x ∷ filter q xs) (filter q xs)) e in
      elim (cases_Bool (p x)) [
        | inl t ↦
            ap made_of (from_q true (adds x ∙ ap (λ b. b || is_role m x) t)) ∙ first_stays x xs head.0 head.1 k
            ∙ sym (ap (λ rs. with_mark (made_of rs) m) (from_p true t))
        | inr f ↦
            let now : q x ≡ is_role m x = adds x ∙ ap (λ b. b || is_role m x) f in
            elim (cases_Bool (is_role m x)) [
              | inl is ↦
                  let same : m ≡ x = same_role m x is in
                  let none = after_itself xs (subst (λ y. list_all (later y) xs ≡ true) (sym same) head.1) in
                  ap made_of (from_q true (now ∙ is)) ∙ ap (λ rs. made_of (x ∷ rs)) (same_kept xs none)
                  ∙ begins x (filter p xs) head.0 (kept_all (later x) p xs head.1) ∙ ap (with_mark (made_of (filter p xs))) (sym same)
                  ∙ sym (ap (λ rs. with_mark (made_of rs) m) (from_p false f))
              | inr other ↦
                  ap made_of (from_q false (now ∙ other)) ∙ adds_mark xs parts.1 (sym (λ i. other i || list_any (is_role m) xs) ∙ k)
                  ∙ sym (ap (λ rs. with_mark (made_of rs) m) (from_p false f))
            ]
      ]

-- one more triple

marked_is : (m : Role) (t : Triple) → marks_role m t ≡ true → list_any (is_role m) marked_roles ≡ true
unfolding marks_role
marked_is role.List t h = refl
marked_is role.Property t h = refl
marked_is role.Class t h = refl
marked_is role.Range t h = refl
marked_is role.Facet t h = refl
marked_is role.Main t h = refl
marked_is role.Note t h = refl
marked_is role.Header t h = refl
marked_is role.Individual t h = cc

module _ (ts : List Triple) (t : Triple) where
  with_last : (o : Option Role) → ((r : Role) → (marks_role r t ≡ true) ↔ (o ≡ Some r)) → (r : Role) →
      list_any (marks_role r) (ts ++ t ∷ []) ≡ (list_any (marks_role r) ts || is_the_role o r)
  with_last o h r =
      list_any-append (marks_role r) ts (t ∷ []) ∙ ap (λ b. list_any (marks_role r) ts || b) (or_false (marks_role r t) ∙ one_answer (marks_role r t) (is_the_role o r) (h r) (the_role o r))

  pub no_mark : ((r : Role) → (marks_role r t ≡ true) ↔ (None ≡ Some r)) → made_of (roles_in (ts ++ t ∷ [])) ≡ made_of (roles_in ts)
  unfolding roles_in
  no_mark h = λ i. made_of (filter (λ r. (with_last None h r ∙ or_false (list_any (marks_role r) ts)) i) marked_roles)

  pub one_mark : (m : Role) → ((r : Role) → (marks_role r t ≡ true) ↔ (Some m ≡ Some r)) → made_of (roles_in (ts ++ t ∷ [])) ≡ with_mark (made_of (roles_in ts)) m
  unfolding roles_in
  one_mark m h =
      adds_mark m (λ r. list_any (marks_role r) ts) (λ r. list_any (marks_role r) (ts ++ t ∷ [])) (with_last (Some m) h) marked_roles all_up
      (marked_is m t ((h m).1 refl))
