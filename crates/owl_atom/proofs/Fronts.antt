-- The order of fronts, and where a search for an IRI ends.
use Rattle.std.proofs.Common.{◌≡◌, ◌≢◌, ◌<◌, ◌≤◌, ◌⊎◌, inl, inr, ℕ, zero, suc, true, false, List, length, Some, get_or, refl, sym, ap, ◌∙◌, subst, arith}
use Rattle.std.specs.Prelude.{slice_get, Contains, nat_lt}
use Rattle.std.specs.declared.cmp.Ordering.{Ordering}
use Rattle.std.specs.declared.cmp.Ordering.TheVariants.{Less, Equal, Greater}
use Rattle.std.specs.Ordering.{nat_cmp, ordering_then, is_lt}
use Rattle.std.specs.Cmp.{ranked}
use Rattle.std.specs.List.Sorted.{IsPartitionPoint, IsPartitionedBy, IsStrictlySortedBy}
use Rattle.std.proofs.lemmas.Cmp.{tied_itself}
use Rattle.std.proofs.lemmas.Map.Keys.{Less-from_sorted}
use Rattle.std.proofs.lemmas.Option.{get_or_from_slice_get, slice_get-get_or, slice_get_within}
use Rattle.std.proofs.lemmas.Bool.{ltb-false, true≢false}
use Rattle.owl_characters.specs.Order.{text_cmp}
use Rattle.owl_characters.specs.OrderLaws.{same_texts, texts_total}
use Rattle.owl_atom.specs.declared.by_iri.Front.{Front}
use Rattle.owl_atom.specs.ByIri.{IsFirst, front_cmp}

less_is : (a b : ℕ) → nat_cmp a b ≡ Less → a < b
less_is a b e = ranked a b Less (sym e)

-- a front that stands before another one has a lesser IRI, or the same and an earlier place
before_by : (a b : Front) (o : Ordering) → text_cmp a.iri b.iri ≡ o → ordering_then o (nat_cmp a.place b.place) ≡ Less → (text_cmp a.iri b.iri ≡ Less) ⊎ ((a.iri ≡ b.iri) × (a.place < b.place))
before_by a b Less e h = inl e
before_by a b Equal e h = inr (same_texts a.iri b.iri e, less_is a.place b.place h)
before_by a b Greater e h = absurd (cc)

before : (a b : Front) → front_cmp a b ≡ Less → (text_cmp a.iri b.iri ≡ Less) ⊎ ((a.iri ≡ b.iri) × (a.place < b.place))
before a b h = before_by a b (text_cmp a.iri b.iri) refl h

is_less : (o : Ordering) → is_lt o ≡ true → o ≡ Less
is_less Less h = refl
is_less Equal h = absurd (cc)
is_less Greater h = absurd (cc)

less_too : (a b : Front) (iri : List ℕ) → front_cmp a b ≡ Less → is_lt (text_cmp b.iri iri) ≡ true → is_lt (text_cmp a.iri iri) ≡ true
less_too a b iri h e = elim (before a b h) as (λ _. is_lt (text_cmp a.iri iri) ≡ true) [
  | inl less ↦ ap is_lt (texts_total.trans a.iri b.iri iri less (is_less (text_cmp b.iri iri) e))
  | inr same ↦ ap (λ t. is_lt (text_cmp t iri)) same.0 ∙ e
]

same_or_less : (i j : ℕ) → i ≤ j → (i < j) ⊎ (i ≡ j)
same_or_less zero zero h = inr refl
same_or_less zero (suc j) h = inl (omega arith)
same_or_less (suc i) zero h = absurd (omega arith)
same_or_less (suc i) (suc j) h = elim (same_or_less i j (omega arith)) as (λ _. (suc i < suc j) ⊎ (suc i ≡ suc j)) [ inl lt ↦ inl (omega arith) | inr e ↦ inr (ap suc e) ]

compared : (a b : ℕ) → (a < b) ⊎ ((a ≡ b) ⊎ (b < a))
compared zero zero = inr (inl refl)
compared zero (suc b) = inl (omega arith)
compared (suc a) zero = inr (inr (omega arith))
compared (suc a) (suc b) = elim (compared a b) as (λ _. (suc a < suc b) ⊎ ((suc a ≡ suc b) ⊎ (suc b < suc a))) [ inl lt ↦ inl (omega arith) | inr (inl e) ↦ inr (inl (ap suc e)) | inr (inr lt) ↦ inr (inr (omega arith)) ]

pub parted : (fronts : List Front) (iri : List ℕ) → IsStrictlySortedBy front_cmp fronts → IsPartitionedBy (λ front. is_lt (text_cmp front.iri iri)) fronts
parted fronts iri up i j d le lt e = elim (same_or_less i j le) as (λ _. is_lt (text_cmp (get_or fronts i d).iri iri) ≡ true) [
  | inl less ↦ less_too (get_or fronts i d) (get_or fronts j d) iri (Less-from_sorted front_cmp fronts i j d up less lt) e
  | inr same ↦ subst (λ k. is_lt (text_cmp (get_or fronts k d).iri iri) ≡ true) (sym same) e
]

-- past the last front there is none
pub past : (fronts : List Front) (i : ℕ) (front : Front) → false ≡ nat_lt i (length fronts) → slice_get fronts i ≡ Some front → ⊥
past fronts i front e stands =
    let within = slice_get_within fronts i front stands in
    let le = ltb-false i (length fronts) (sym e) in
    absurd (omega arith)

-- no text is less than itself
never_less : (iri : List ℕ) → is_lt (text_cmp iri iri) ≡ true → ⊥
never_less iri h = let tie = tied_itself texts_total iri in absurd (cc)

abbrev pub IsPoint : List Front → List ℕ → ℕ → Type 0
IsPoint fronts iri i = IsPartitionPoint (λ front. is_lt (text_cmp front.iri iri) ≡ true) (λ front. is_lt (text_cmp front.iri iri) ≡ false) fronts i

module _ (fronts : List Front) (iri : List ℕ) (i : ℕ) (up : IsStrictlySortedBy front_cmp fronts) (point : IsPoint fronts iri i) where
  -- fronts with the IRI stand no earlier
  no_earlier : (k : ℕ) (front : Front) → front.iri ≡ iri → get_or fronts k front ≡ front → k < i → ⊥
  no_earlier k front same is lt =
      never_less iri (subst (λ t. is_lt (text_cmp t iri) ≡ true) (ap (λ (f : Front). f.iri) is ∙ same) (point.0 k front (omega arith) lt))

  no_sooner : (front : Front) → slice_get fronts i ≡ Some front → front.iri ≡ iri → (other k : ℕ) → k < length fronts → get_or fronts k (record { iri = iri; place = other }) ≡ record { iri = iri; place = other } → (k < i) ⊎ ((k ≡ i) ⊎ (i < k)) → front.place ≤ other
  no_sooner front stands same other k within is (inl lt) = absurd (no_earlier k (record { iri = iri; place = other }) refl is lt)
  no_sooner front stands same other k within is (inr (inl e)) =
      let it : front ≡ record { iri = iri; place = other } = sym (get_or_from_slice_get fronts i front _ stands) ∙ ap (λ n. get_or fronts n (record { iri = iri; place = other })) (sym e) ∙ is in
      let places = ap (λ (f : Front). f.place) it in
      omega arith
  no_sooner front stands same other k within is (inr (inr lt)) =
      let less : front_cmp front (record { iri = iri; place = other }) ≡ Less =
      subst (λ f. front_cmp f (record { iri = iri; place = other }) ≡ Less) (get_or_from_slice_get fronts i front _ stands)
      (subst (λ f. front_cmp (get_or fronts i (record { iri = iri; place = other })) f ≡ Less) is (Less-from_sorted front_cmp fronts i k _ up lt within)) in
      elim (before front (record { iri = iri; place = other }) less) as (λ _. front.place ≤ other) [
        | inl e ↦ absurd (never_less iri (ap is_lt (subst (λ t. text_cmp t iri ≡ Less) same e)))
        | inr h ↦ let lt = h.1 in omega arith
      ]

  -- where the search ends at a front with the IRI, this is the first one
  pub first_is : (front : Front) → slice_get fronts i ≡ Some front → front.iri ≡ iri → IsFirst fronts iri front.place
  first_is front stands same = record {
    stands = subst (λ t. Contains fronts (record { iri = t; place = front.place })) same (i, slice_get_within fronts i front stands, get_or_from_slice_get fronts i front front stands);
    first = λ other c. no_sooner front stands same other c.0 c.1 c.2 (compared c.0 i);
  }

  not_there : ((front : Front) → slice_get fronts i ≡ Some front → front.iri ≢ iri) → (place k : ℕ) → k < length fronts → get_or fronts k (record { iri = iri; place = place }) ≡ record { iri = iri; place = place } → (k < i) ⊎ ((k ≡ i) ⊎ (i < k)) → ⊥
  not_there other place k within is (inl lt) = no_earlier k (record { iri = iri; place = place }) refl is lt
  not_there other place k within is (inr (inl e)) =
      other (record { iri = iri; place = place }) (ap (slice_get fronts) (sym e) ∙ slice_get-get_or fronts k _ within ∙ ap Some is) refl
  not_there other place k within is (inr (inr lt)) =
      let front = get_or fronts i (record { iri = iri; place = place }) in
      let inside : i < length fronts = omega arith in
      let not_less = point.1 i (record { iri = iri; place = place }) (omega arith) inside in
      let less : front_cmp front (record { iri = iri; place = place }) ≡ Less =
      subst (λ f. front_cmp front f ≡ Less) is (Less-from_sorted front_cmp fronts i k _ up lt within) in
      elim (before front (record { iri = iri; place = place }) less) as (λ _. ⊥) [
        | inl e ↦ true≢false (sym (ap is_lt e) ∙ not_less)
        | inr h ↦ other front (slice_get-get_or fronts i _ inside) h.0
      ]

  -- where it ends at none, or at one with another IRI, there is none
  pub nowhere : ((front : Front) → slice_get fronts i ≡ Some front → front.iri ≢ iri) → (place : ℕ) → Contains fronts (record { iri = iri; place = place }) → ⊥
  nowhere other place c = not_there other place c.0 c.1 c.2 (compared c.0 i)
