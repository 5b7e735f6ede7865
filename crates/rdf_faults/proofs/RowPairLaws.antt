-- What the tests over pairs of rows give, and that no property is one of objects and one of data.
use Rattle.std.specs.Prelude.{◌≡◌, ◌≤◌, ◌⊎◌, ℕ, zero, suc, Bool, true, false, not, ◌&&◌, ◌||◌, cond, is_some, nat_eq, List, [], ◌∷◌, Contains, map, None, Some}
use Rattle.std.specs.List.{list_all, list_any}
use Rattle.std.proofs.Common.{inl, inr, refl, sym, ap, ◌∙◌, subst, arith}
use Rattle.std.proofs.lemmas.Bool.{and_parts, both_ways, eq-eqb, eqb-true, not-true}
use Rattle.owl_list.proofs.AscendingLaws.{in_cases, in_head, in_none, in_tail}
use Rattle.owl_kind.specs.Kinds.{Entity}
use Rattle.owl_tree.specs.declared.row.Sort.TheVariants as sort
use Rattle.rdf_graph.specs.declared.term.Term.{Term}
use Rattle.rdf_graph.specs.declared.term.Term.TheVariants.{Iri, Blank, Literal}
use Rattle.rdf_graph.specs.declared.triple.Triple.{Triple}
use Rattle.rdf_meaning.proofs.ListLaws.{passes, some_passes}
use Rattle.rdf_meaning.specs.declared.role.Role.{Role}
use Rattle.rdf_meaning.specs.declared.role.Role.TheVariants as role
use Rattle.rdf_meaning.specs.declared.word.Word.{Word}
use Rattle.rdf_meaning.specs.declared.word.Word.TheVariants as word
use Rattle.rdf_meaning.specs.declared.row.Place.{Place}
use Rattle.rdf_meaning.specs.declared.row.Place.TheVariants.{At, Subject, Predicate, Object}
use Rattle.rdf_meaning.specs.declared.row.Part.{Part}
use Rattle.rdf_meaning.specs.declared.row.Want.{Want}
use Rattle.rdf_meaning.specs.declared.row.Want.TheVariants.{One, Mark}
use Rattle.rdf_meaning.specs.Kinds.{HaveNoClash, has_kind}
use Rattle.rdf_meaning.proofs.KindLaws.{has_kind_is, no_shared}
use Rattle.owl_kind.specs.declared.kind.Kind.TheVariants as kind
use Rattle.rdf_meaning.specs.Words.{word_number}
use Rattle.rdf_meaning.proofs.WordLaws.{same_word}
use Rattle.rdf_meaning.specs.Nodes.{is_word, role_of, words_of}
use Rattle.rdf_meaning.specs.Rows.{Row, axiom_rows, node_rows}
use Rattle.rdf_meaning.specs.RowTests.{is_place}
use Rattle.rdf_meaning.proofs.RowLaws.{same_place}
use Rattle.rdf_meaning.specs.Denotation.{simple, stands_at, times}
use Rattle.rdf_faults.specs.Asked.{IsMet, by_property, is_of_sort, role_gives, rows}
use Rattle.rdf_faults.proofs.RowPairTestLaws.{agrees, all_joined, are_joined, decider, has_own_parts, is_aligned, is_own_place, is_plain, tells}

pub rows_are_joined : all_joined rows ≡ true
unfolding node_rows axiom_rows words_of word_number
rows_are_joined = refl

pub rows_have_own_parts : list_all has_own_parts rows ≡ true
unfolding node_rows axiom_rows words_of word_number
rows_have_own_parts = refl

pub pairs_joined : (all : List Row) → all_joined all ≡ true → (a b : Row) → Contains all a → Contains all b → (a ≡ b) ⊎ (are_joined a b ≡ true)
pairs_joined [] h a b m n = absurd (in_none a m)
pairs_joined (row ∷ all) h a b m n =
    let tests = and_parts (list_all (λ c. are_joined row c && are_joined c row) all) (all_joined all) h in
    elim (in_cases row all a m) [
      | inl e ↦
          elim (in_cases row all b n) [
            | inl f ↦ inl (sym e ∙ f)
            | inr i ↦
                let both = and_parts (are_joined row b) (are_joined b row) (passes (λ c. are_joined row c && are_joined c row) all b tests.0 i) in
                inr (subst (λ c. are_joined c b ≡ true) e both.0)
          ]
      | inr i ↦
          elim (in_cases row all b n) [
            | inl f ↦
                let both = and_parts (are_joined row a) (are_joined a row) (passes (λ c. are_joined row c && are_joined c row) all a tests.0 i) in
                inr (subst (λ c. are_joined a c ≡ true) f both.1)
            | inr j ↦ pairs_joined all tests.1 a b i j
          ]
    ]

-- a part of the other row at the same place
pub record IsAlignedWith (w : Word) (p : Part) (qs : List Part) : Type 0 where
  pub q : Part
  pub inside : Contains qs q
  pub place : p.place ≡ q.place
  pub agree : agrees w p q ≡ true

pub aligned_with : (w : Word) (ps qs : List Part) → is_aligned w ps qs ≡ true → (p : Part) → Contains ps p → IsAlignedWith w p qs
aligned_with w [] qs h p m = absurd (in_none p m)
aligned_with w (o ∷ ps) [] h p m = cc
aligned_with w (o ∷ ps) (q ∷ qs) h p m =
    let tests = and_parts (is_place o.place q.place && agrees w o q) (is_aligned w ps qs) h in
    let first = and_parts (is_place o.place q.place) (agrees w o q) tests.0 in
    elim (in_cases o ps p m) [
      | inl e ↦
          subst (λ r. IsAlignedWith w r (q ∷ qs)) e
          (record { q = q; inside = in_head q qs; place = same_place o.place q.place first.0; agree = first.1 })
      | inr n ↦
          let a = aligned_with w ps qs tests.1 p n in
          record { q = a.q; inside = in_tail q qs a.q a.inside; place = a.place; agree = a.agree }
    ]

-- the word of a part, where a node's row has it
pub record IsOwnPlace (r : Role) (ps : List Part) (place : Place) : Type 0 where
  pub w : Word
  pub at : place ≡ At w
  pub among : Contains (words_of r) w
  pub once : times w ps ≡ 1

pub own_place_at : (r : Role) (ps : List Part) (place : Place) → is_own_place r ps place ≡ true → IsOwnPlace r ps place
own_place_at r ps (At w) h =
    let tests = and_parts (list_any (λ v. is_word v w) (words_of r)) (nat_eq (times w ps) 1) h in
    let p = some_passes (λ v. is_word v w) (words_of r) tests.0 in
    record {
      w = w;
      at = refl;
      among = subst (λ v. Contains (words_of r) v) (same_word p.element w p.passes) p.inside;
      once = eqb-true (times w ps) 1 tests.1;
    }
own_place_at r ps Subject h = cc
own_place_at r ps Predicate h = cc
own_place_at r ps Object h = cc

pub place_at : (w : Word) (place : Place) (want : Want) → stands_at w (record { place = place; want = want }) ≡ true → place ≡ At w
place_at w (At v) want h = ap At (sym (same_word w v h))
place_at w Subject want h = cc
place_at w Predicate want h = cc
place_at w Object want h = cc

pub same_at : (f h : Word → ℕ) (ws : List Word) (w : Word) → map f ws ≡ map h ws → Contains ws w → f w ≡ h w
same_at f h [] w e m = absurd (in_none w m)
same_at f h (v ∷ ws) w e m =
    let first : f v ≡ h v = cc in
    let rest : map f ws ≡ map h ws = cc in
    elim (in_cases v ws w m) [ inl s ↦ subst (λ u. f u ≡ h u) s first | inr n ↦ same_at f h ws w rest n ]

pub one_and_none : (n : ℕ) → n ≡ 1 → n ≡ 0 → ⊥
one_and_none n a b = omega (arith, a, b)

pub none_or_some : (n : ℕ) → (n ≡ 0) ⊎ (1 ≤ n)
none_or_some zero = inl refl
none_or_some (suc n) = inr (omega arith)

no_decider : (r : Role) → list_all (λ v. not (is_word v (decider r))) by_property ≡ true
unfolding word_number
no_decider role.Main = refl
no_decider _ = refl

-- such a word is no decider
pub decider_apart : (r : Role) (v : Word) → Contains by_property v → v ≡ decider r → ⊥
decider_apart r v m e =
    both_ways (is_word v (decider r)) (not-true _ (passes (λ u. not (is_word u (decider r))) by_property v (no_decider r) m))
    (subst (λ u. is_word v u ≡ true) e (eq-eqb (word_number v) (word_number v) refl))

pub no_property : (v : Word) → Contains by_property v → v ≡ word.OnProperty → ⊥
no_property v m e = decider_apart role.Class v m e

some_named : {A : Type 0} (b : Bool) (a : A) → is_some (cond b (Some a) None) || false ≡ true → b ≡ true
some_named true a h = refl
some_named false a h = cc

-- no property is one of objects and one of data
pub kinds_apart : (g : List Triple) (k : List Entity) → HaveNoClash k → (x : Term) → is_of_sort g k sort.ObjectPropertyExpression x ≡ true → is_of_sort g k sort.DataPropertyExpression x ≡ true → ⊥
unfolding simple
kinds_apart g k none (Iri iri) h i =
    no_shared k none iri (inr (inl (
      (has_kind_is k kind.ObjectProperty iri).0 (some_named (has_kind k kind.ObjectProperty iri) _ h),
      (has_kind_is k kind.DataProperty iri).0 (some_named (has_kind k kind.DataProperty iri) _ i),
    )))
kinds_apart g k none (Blank label) h i = no_data (role_of g (Blank label)) i
  where
    no_data : (r : Role) → false || role_gives r sort.DataPropertyExpression ≡ true → ⊥
    no_data role.List j = cc
    no_data _ j = cc
kinds_apart g k none (Literal literal) h i = cc

pub told : (g : List Triple) (k : List Entity) → HaveNoClash k → (a b : Want) (x : Term) → tells a b ≡ true → IsMet g k a x → IsMet g k b x → ⊥
told g k none (One sort.ObjectPropertyExpression) (One sort.DataPropertyExpression) x t h i = kinds_apart g k none x h i
told g k none (One sort.DataPropertyExpression) (One sort.ObjectPropertyExpression) x t h i = kinds_apart g k none x i h
told g k none _ _ x t h i = cc

pub plain_met : (g : List Triple) (k : List Entity) (a b : Want) (x : Term) → is_plain a b ≡ true → IsMet g k b x → IsMet g k a x
plain_met g k Mark Mark x p h = tt
plain_met g k (One sort.Number) (One sort.Number) x p h = h
plain_met g k _ _ x p h = cc
