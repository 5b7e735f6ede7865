-- The triples with a subject stand side by side.
use Rattle.std.proofs.Common.{◌≡◌, ◌↔◌, ◌<◌, ◌≤◌, ◌+◌, inl, inr, ℕ, List, Option, None, Some, true, false, get_or, length, refl, sym, ap, ◌∙◌, subst, arith}
use Rattle.std.specs.Prelude.{IfSome, option_map, slice_get}
use Rattle.std.specs.declared.cmp.Ordering.{Ordering}
use Rattle.std.specs.declared.cmp.Ordering.TheVariants.{Less, Equal, Greater}
use Rattle.std.specs.List.{AllWithin}
use Rattle.std.specs.List.Sorted.{IsPartitionedBy, IsSortedByKey}
use Rattle.std.specs.Ordering.{is_le, is_lt, ordering_reverse}
use Rattle.std.proofs.lemmas.Bool.{cases_Bool, true≢false}
use Rattle.std.proofs.lemmas.List.{get_or_default}
use Rattle.std.proofs.lemmas.Bool.Decides.{leb_tells}
use Rattle.std.proofs.lemmas.Cmp.{tied_itself}
use Rattle.std.proofs.lemmas.Map.Keys.{Less-from_sorted}
use Rattle.std.proofs.lemmas.Option.{get_or_from_slice_get, same_Some, slice_get_cases, slice_get_within}
use Rattle.owl_list.specs.Ascending.{IsAscending}
use Rattle.rdf_graph.specs.declared.term.Term.{Term}
use Rattle.rdf_graph.specs.declared.triple.Triple.{Triple}
use Rattle.rdf_graph.specs.BySubject.{IsCountBelow, IsCountUpTo}
use Rattle.rdf_graph.specs.Graphs.{subject_at}
use Rattle.rdf_graph.specs.Terms.{term_cmp, triple_cmp}
use Rattle.rdf_graph.proofs.TermLaws.{only_equal_terms_tie, terms_total}
use Rattle.rdf_graph.proofs.Comparisons.{is_equal, is_greater, is_less, not_after}
use Rattle.rdf_graph.proofs.Halving.{parted_below, parted_up_to}

sorted_by_subject : (triples : List Triple) → IsAscending triple_cmp triples → IsSortedByKey (λ t. t.subject) term_cmp triples
sorted_by_subject triples up k d low lt =
    let a = get_or triples k d in
    let b = get_or triples (k + 1) d in
    ap is_lt (terms_total.antisymm b.subject a.subject) ∙ not_after (term_cmp a.subject b.subject) _ (Less-from_sorted triple_cmp triples k (k + 1) d up (omega arith) lt)

pub subjects_below : (triples : List Triple) (term : Term) → IsAscending triple_cmp triples → IsPartitionedBy (λ t. is_lt (term_cmp t.subject term)) triples
subjects_below triples term up = parted_below (λ (t : Triple). t.subject) term_cmp terms_total triples (sorted_by_subject triples up) term

pub subjects_up_to : (triples : List Triple) (term : Term) → IsAscending triple_cmp triples → IsPartitionedBy (λ t. is_le (term_cmp t.subject term)) triples
subjects_up_to triples term up = parted_up_to (λ (t : Triple). t.subject) term_cmp terms_total triples (sorted_by_subject triples up) term

-- the first triples have this subject or a lesser one
abbrev pub AreUpTo : Term → ℕ → List Triple → Type 0
AreUpTo term count triples = AllWithin (λ t. is_le (term_cmp t.subject term) ≡ true) triples 0 count

less_is_le : (o : Ordering) → is_lt o ≡ true → is_le o ≡ true
less_is_le Less h = refl
less_is_le Equal h = cc
less_is_le Greater h = cc

pub below_are_up_to : (triples : List Triple) (term : Term) (count : ℕ) → IsCountBelow term count triples → AreUpTo term count triples
below_are_up_to triples term count h = λ k d low lt. less_is_le _ (h.parted.0 k d low lt)

-- by the order of the term and the subject at the place
not_less : (o p : Ordering) → o ≡ ordering_reverse p → is_lt o ≡ false → is_le p ≡ true
not_less o Less e h = refl
not_less o Equal e h = refl
not_less o Greater e h = cc

less_is_not_le : (o p : Ordering) → o ≡ ordering_reverse p → is_lt o ≡ true → is_le p ≡ false
less_is_not_le o Less e h = cc
less_is_not_le o Equal e h = cc
less_is_not_le o Greater e h = refl

module _ (triples : List Triple) (term : Term) (count : ℕ) (t : Triple) (within : count < length triples) (is : t ≡ get_or triples count t) (up_to : AreUpTo term count triples) where
  here : (d : Triple) → get_or triples count d ≡ t
  here d = get_or_default triples count d t within ∙ sym is

  pub one_more_up_to : is_lt (term_cmp term t.subject) ≡ false → AreUpTo term (count + 1) triples
  one_more_up_to h = λ k d low lt.
      elim (leb_tells count k) as (λ _. is_le (term_cmp (get_or triples k d).subject term) ≡ true) [
        | inl le ↦
            let same : k ≡ count = omega (arith, le.1, lt) in
            subst (λ p. is_le (term_cmp (get_or triples p d).subject term) ≡ true) (sym same)
            (subst (λ u. is_le (term_cmp u.subject term) ≡ true) (sym (here d)) (not_less _ _ (terms_total.antisymm term t.subject) h))
        | inr less ↦ up_to k d low less.1
      ]

  pub counted_up_to : IsAscending triple_cmp triples → is_lt (term_cmp term t.subject) ≡ true → IsCountUpTo term count triples
  counted_up_to up h = record {
    bound = omega (arith, within);
    parted = (
      up_to,
      λ k d le lt.
          elim (cases_Bool (is_le (term_cmp (get_or triples k d).subject term))) [
            | inl up_here ↦
                let earlier = subjects_up_to triples term up count k d le lt up_here in
                absurd (true≢false (sym (subst (λ u. is_le (term_cmp u.subject term) ≡ true) (here d) earlier) ∙ less_is_not_le _ _ (terms_total.antisymm term t.subject) h))
            | inr beyond ↦ beyond
          ],
    );
  }

-- a subject at a place is that of a triple
has_subject : (o : Option Triple) (s : Term) → option_map (λ t. t.subject) o ≡ Some s → (t : Triple) × (o ≡ Some t) × (t.subject ≡ s)
has_subject None s e = cc
has_subject (Some t) s e = (t, refl, same_Some _ _ e)

each_subject : (P : Term → Type 0) (o : Option Triple) → ((t : Triple) → o ≡ Some t → P t.subject) → IfSome (option_map (λ t. t.subject) o) P
each_subject P None h = tt
each_subject P (Some t) h = h t refl

-- where the triples with a subject stand, and where the others do
pub record IsSpan (triples : List Triple) (term : Term) (first past : ℕ) : Type 0 where
  pub ordered : first ≤ past
  pub among : (place : ℕ) → (subject_at triples place ≡ Some term) ↔ ((first ≤ place) × (place < past))
  pub before : (place : ℕ) → place < first → IfSome (subject_at triples place) (λ s. term_cmp s term ≡ Less)
  pub behind : (place : ℕ) → past ≤ place → IfSome (subject_at triples place) (λ s. term_cmp term s ≡ Less)

module _ {triples : List Triple} {term : Term} {first past : ℕ} (below : IsCountBelow term first triples) (up_to : IsCountUpTo term past triples) where
  -- what the two searches tell of the triple at a place
  less_at : (place : ℕ) (t : Triple) → slice_get triples place ≡ Some t → place < first → term_cmp t.subject term ≡ Less
  less_at place t e lt =
      let is = get_or_from_slice_get triples place t t e in
      subst (λ (u : Triple). term_cmp u.subject term ≡ Less) is (is_less _ (below.parted.0 place t (omega arith) lt))

  greater_at : (place : ℕ) (t : Triple) → slice_get triples place ≡ Some t → past ≤ place → term_cmp t.subject term ≡ Greater
  greater_at place t e le =
      let is = get_or_from_slice_get triples place t t e in
      subst (λ (u : Triple). term_cmp u.subject term ≡ Greater) is (is_greater _ (up_to.parted.1 place t le (slice_get_within triples place t e)))

  equal_at : (place : ℕ) (t : Triple) → slice_get triples place ≡ Some t → first ≤ place → place < past → t.subject ≡ term
  equal_at place t e le lt =
      let is = get_or_from_slice_get triples place t t e in
      subst (λ (u : Triple). u.subject ≡ term) is
      (only_equal_terms_tie _ _ (is_equal _ (below.parted.1 place t le (slice_get_within triples place t e)) (up_to.parted.0 place t (omega arith) lt)))

  less_before : (place : ℕ) → place < first → IfSome (subject_at triples place) (λ s. term_cmp s term ≡ Less)
  less_before place lt = each_subject (λ s. term_cmp s term ≡ Less) (slice_get triples place) (λ t e. less_at place t e lt)

  greater_behind : (place : ℕ) → past ≤ place → IfSome (subject_at triples place) (λ s. term_cmp term s ≡ Less)
  greater_behind place le =
      each_subject (λ s. term_cmp term s ≡ Less) (slice_get triples place)
      (λ t e. terms_total.antisymm term t.subject ∙ ap ordering_reverse (greater_at place t e le))

  -- no term is less or greater than itself
  tie : (s : Term) → s ≡ term → term_cmp s term ≡ Equal
  tie s e = subst (λ (u : Term). term_cmp u term ≡ Equal) (sym e) (tied_itself terms_total term)

  among_only : (place : ℕ) → subject_at triples place ≡ Some term → (first ≤ place) × (place < past)
  among_only place e =
      let it = has_subject (slice_get triples place) term e in
      let tied = tie it.0.subject it.2 in
      let from : first ≤ place = elim (leb_tells first place) as (λ _. first ≤ place) [ inl h ↦ h.1 | inr h ↦ let less = less_at place it.0 it.1 h.1 in cc ] in
      let to : place < past = elim (leb_tells past place) as (λ _. place < past) [ inl h ↦ let greater = greater_at place it.0 it.1 h.1 in cc | inr h ↦ h.1 ] in
      (from, to)

  among_all : (place : ℕ) → first ≤ place → place < past → subject_at triples place ≡ Some term
  among_all place le lt =
      elim (slice_get_cases triples place).1 as (λ _. subject_at triples place ≡ Some term) [
        | inl h ↦ ap (option_map (λ (t : Triple). t.subject)) h.2 ∙ ap Some (equal_at place h.0 h.2 le lt)
        | inr h ↦ absurd (let out = h.0 in let within = up_to.bound in omega arith)
      ]

  in_order : first ≤ past
  in_order =
      elim (leb_tells first past) as (λ _. first ≤ past) [
        | inl h ↦ h.1
        | inr h ↦
            let lt = h.1 in
            elim (slice_get_cases triples past).1 as (λ _. first ≤ past) [
              | inl t ↦ let less = less_at past t.0 t.2 lt in let greater = greater_at past t.0 t.2 (omega arith) in cc
              | inr out ↦ absurd (let le = out.0 in let within = below.bound in omega arith)
            ]
      ]

  pub span : IsSpan triples term first past
  span = record { ordered = in_order; among = λ place. (among_only place, λ h. among_all place h.0 h.1); before = less_before; behind = greater_behind }
