-- Marks by the numbers of nodes, and by what they are set.
use Rattle.std.specs.Prelude.{◌≡◌, ◌↔◌, ◌⊎◌, ◌<◌, ◌≤◌, ◌+◌, ℕ, zero, suc, Bool, true, false, IsTrue, List, [], ◌∷◌, ◌++◌, Contains, Option, None, Some, get_or, length, map, slice_get, slice_set, take}
use Rattle.std.proofs.Common.{inl, inr, refl, sym, ap, ◌∙◌, subst, arith}
use Rattle.std.proofs.lemmas.Bool.{cases_eq}
use Rattle.std.proofs.lemmas.List.{get_or-set_other, get_or-set_same, length-map, length-set, take_all, take_more}
use Rattle.std.proofs.lemmas.List.Elements.{Contains-append_cases, Contains-append_left, Contains-append_right}
use Rattle.std.proofs.lemmas.Option.{same_Some}
use Rattle.owl_list.specs.Ascending.{AreApart}
use Rattle.owl_list.proofs.AscendingLaws.{ascending_apart, in_cases, in_head, in_none, in_tail}
use Rattle.rdf_graph.specs.declared.term.Term.{Term}
use Rattle.rdf_graph.specs.declared.term.Term.TheVariants.{Iri, Blank, Literal}
use Rattle.rdf_graph.specs.declared.triple.Triple.{Triple}
use Rattle.rdf_graph.specs.Terms.{term_cmp}
use Rattle.rdf_graph.proofs.TermLaws.{terms_total}
use Rattle.rdf_meaning.specs.Nodes.{subjects_of}
use Rattle.rdf_roles.proofs.NodeLaws.{from_labels, has_number, keys_are, same_label}
use Rattle.rdf_roles.specs.Tables.{HasNumber, IsNode, IsTableOf, RoleTable, blank_nodes, labels_in, with_role}
use Rattle.rdf_scans.specs.Reach.{AddsMarks, HasRole, IsBySome, IsNodeWithRole, IsNumberWithRole, has_mark}

pub no_marks : (P : ℕ → Type 0) (marks : List Bool) → ((n : ℕ) → n < length marks → P n → ⊥) → AddsMarks P marks marks
no_marks P marks none = record {
  each = refl;
  told = λ n h. (λ m. inl m, λ s. elim s [ inl m ↦ m | inr p ↦ absurd (none n h p) ]);
}

pub marks_both : {P Q R : ℕ → Type 0} {a b c : List Bool} → ((n : ℕ) → R n ↔ (P n ⊎ Q n)) → AddsMarks P a b → AddsMarks Q b c → AddsMarks R a c
marks_both {P} {Q} {R} {a} {b} {c} same first second = record {
  each = second.each ∙ first.each;
  told = λ n h.
      let p = first.told n h in
      let q = second.told n (subst (λ k. n < k) (sym first.each) h) in (
        λ m. elim (q.0 m) [
          | inl o ↦ elim (p.0 o) [ inl k ↦ inl k | inr r ↦ inr ((same n).1 (inl r)) ]
          | inr r ↦ inr ((same n).1 (inr r))
        ],
        λ s. elim s [
          | inl k ↦ q.1 (inl (p.1 (inl k)))
          | inr r ↦ elim ((same n).0 r) [ inl x ↦ q.1 (inl (p.1 (inr x))) | inr y ↦ q.1 (inr y) ]
        ],
      );
}

pub marks_as : {P Q : ℕ → Type 0} {a b : List Bool} → ((n : ℕ) → P n ↔ Q n) → AddsMarks P a b → AddsMarks Q a b
marks_as {P} {Q} {a} {b} same first = record {
  each = first.each;
  told = λ n h. (
    λ m. elim ((first.told n h).0 m) [ inl o ↦ inl o | inr p ↦ inr ((same n).0 p) ],
    λ s. elim s [ inl o ↦ (first.told n h).1 (inl o) | inr q ↦ (first.told n h).1 (inr ((same n).1 q)) ],
  );
}

-- a node has one number
apart_labels : (xs : List Term) → AreApart xs → AreApart (labels_in xs)
apart_labels [] a = tt
apart_labels (Iri iri ∷ xs) a = apart_labels xs a.1
apart_labels (Blank label ∷ xs) a = (λ m. a.0 (from_labels xs label m), apart_labels xs a.1)
apart_labels (Literal literal ∷ xs) a = apart_labels xs a.1

nodes_apart : (g : List Triple) → AreApart (blank_nodes g)
unfolding blank_nodes
nodes_apart g = apart_labels (subjects_of g) (ascending_apart term_cmp terms_total (map (λ t. t.subject) g))

at_place : {X : Type 0} (xs : List X) (k : ℕ) (x : X) → slice_get xs k ≡ Some x → Contains xs x
at_place [] k x e = cc
at_place (y ∷ xs) zero x e = subst (λ z. Contains (y ∷ xs) z) (same_Some y x e) (in_head y xs)
at_place (y ∷ xs) (suc k) x e = in_tail y xs x (at_place xs k x e)

one_place : {X : Type 0} (xs : List X) (x : X) (j k : ℕ) → AreApart xs → slice_get xs j ≡ Some x → slice_get xs k ≡ Some x → j ≡ k
one_place [] x j k a e f = cc
one_place (y ∷ xs) x zero zero a e f = refl
one_place (y ∷ xs) x zero (suc k) a e f = absurd (a.0 (subst (λ z. Contains xs z) (sym (same_Some y x e)) (at_place xs k x f)))
one_place (y ∷ xs) x (suc j) zero a e f = absurd (a.0 (subst (λ z. Contains xs z) (sym (same_Some y x f)) (at_place xs j x e)))
one_place (y ∷ xs) x (suc j) (suc k) a e f = ap suc (one_place xs x j k a.1 e f)

one_number : (g : List Triple) (x : Term) (j k : ℕ) → IsNode g x j → IsNode g x k → j ≡ k
one_number g x j k m n =
    one_place (blank_nodes g) m.label j k (nodes_apart g) m.at (n.at ∙ ap Some (same_label n.label m.label (sym n.is ∙ m.is)))

-- one term
module _ (g : List Triple) (x : Term) (marks : List Bool) where
  pub no_node : IsNumberWithRole g x None → AddsMarks (IsNodeWithRole g x) marks marks
  no_node none = no_marks (IsNodeWithRole g x) marks (λ n h is. none n is)

  pub node_beyond : (number : ℕ) → IsNodeWithRole g x number → length marks ≤ number → AddsMarks (IsNodeWithRole g x) marks marks
  node_beyond number is beyond =
      no_marks (IsNodeWithRole g x) marks (λ n h other. let same = one_number g x n number other.node is.node in omega (arith, same, h, beyond))

  pub one_mark : (number : ℕ) → IsNodeWithRole g x number → number < length marks → AddsMarks (IsNodeWithRole g x) marks (slice_set marks number true)
  one_mark number is within = record {
    each = length-set marks number true;
    told = λ n h.
        let here = get_or-set_same marks number true false within in
        let there : (n ≡ number → ⊥) → has_mark (slice_set marks number true) n ≡ has_mark marks n = λ o. get_or-set_other marks number n true false o in
        elim (cases_eq n number) [
          | inl e ↦ (
            λ m. inr (subst (IsNodeWithRole g x) (sym e) is),
            λ s. subst (λ k. IsTrue (has_mark (slice_set marks number true) k)) (sym e) here,
          )
          | inr o ↦ (
            λ m. inl (sym (there o) ∙ m),
            λ s. elim s [ inl m ↦ there o ∙ m | inr other ↦ absurd (o (one_number g x n number other.node is.node)) ],
          )
        ];
  }

-- triple by triple
module _ (F : Triple → ℕ → Type 0) where
  by_none : (n : ℕ) → IsBySome F [] n → ⊥
  by_none n s = in_none s.triple s.inside

  by_last : (ts : List Triple) (t : Triple) (n : ℕ) → IsBySome F (ts ++ t ∷ []) n ↔ (IsBySome F ts n ⊎ F t n)
  by_last ts t n = (
    λ s. elim (Contains-append_cases ts (t ∷ []) s.triple s.inside) [
      | inl m ↦ inl (record { triple = s.triple; inside = m; holds = s.holds })
      | inr m ↦ elim (in_cases t [] s.triple m) [ inl e ↦ inr (subst (λ (u : Triple). F u n) (sym e) s.holds) | inr k ↦ absurd (in_none s.triple k) ]
    ],
    λ c. elim c [
      | inl s ↦ record { triple = s.triple; inside = Contains-append_left ts (t ∷ []) s.triple s.inside; holds = s.holds }
      | inr f ↦ record { triple = t; inside = Contains-append_right ts (t ∷ []) t (in_head t []); holds = f }
    ],
  )

  pub by_no_triple : (marks : List Bool) → AddsMarks (IsBySome F []) marks marks
  by_no_triple marks = no_marks (IsBySome F []) marks (λ n h. by_none n)

  module _ (ts : List Triple) (index : ℕ) where
    module _ (t : Triple) (within : index < length ts) (is : t ≡ get_or ts index t) where
      next : take (index + 1) ts ≡ take index ts ++ t ∷ []
      next = take_more ts index t within ∙ ap (λ u. take index ts ++ u ∷ []) (sym is)

      pub by_one_more : {a b c : List Bool} → AddsMarks (IsBySome F (take index ts)) a b → AddsMarks (F t) b c → AddsMarks (IsBySome F (take (index + 1) ts)) a c
      by_one_more {a} {b} {c} first second = subst (λ us. AddsMarks (IsBySome F us) a c) (sym next) (marks_both (by_last (take index ts) t) first second)

      pub by_no_more : {a b : List Bool} → ((n : ℕ) → F t n → ⊥) → AddsMarks (IsBySome F (take index ts)) a b → AddsMarks (IsBySome F (take (index + 1) ts)) a b
      by_no_more {a} {b} none first = by_one_more first (no_marks (F t) b (λ n h. none n))

    pub by_all : {a b : List Bool} → length ts ≤ index → AddsMarks (IsBySome F (take index ts)) a b → AddsMarks (IsBySome F ts) a b
    by_all {a} {b} last first = subst (λ us. AddsMarks (IsBySome F us) a b) (take_all index ts last) first

-- the table of roles tells the nodes by their numbers
module _ (g : List Triple) (table : RoleTable) (is : IsTableOf g table) where
  pub number_is : (label : List ℕ) → HasRole g (Blank label) → (found : Option ℕ) → HasNumber table.nodes label found → IsNumberWithRole g (Blank label) found
  number_is label has_role None none = absurd (has_number g table.nodes is.nodes label has_role none)
  number_is label has_role (Some number) at = record {
    node = record { label = label; is = refl; at = subst (λ (ls : List (List ℕ)). slice_get ls number ≡ Some label) (keys_are g table.nodes is.nodes) at };
    has_role = has_role;
  }

  pub so_many : length table.nodes ≡ length (blank_nodes g)
  so_many = ap length is.nodes ∙ length-map (blank_nodes g) (with_role g)
