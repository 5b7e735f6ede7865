-- The next place with a key, found among the places in the order of their keys.
use Rattle.std.proofs.Common.{◌≡◌, ◌<◌, ◌≤◌, inl, inr, ℕ, Bool, true, false, List, length, get_or, sym, ap, ◌∙◌, subst, arith}
use Rattle.std.specs.Prelude.{Contains}
use Rattle.std.specs.declared.cmp.Ordering.{Ordering}
use Rattle.std.specs.declared.cmp.Ordering.TheVariants.{Less, Equal}
use Rattle.std.specs.Cmp.{IsTotalOrder}
use Rattle.std.specs.FinMap.{IsAntisymmetric}
use Rattle.std.specs.List.Sorted.{IsPartitionPoint, IsPartitionedBy, IsSorted}
use Rattle.std.specs.Ordering.{is_lt, nat_cmp, on, ordering_reverse, ordering_then, then_cmp}
use Rattle.std.proofs.lemmas.Bool.{true≢false}
use Rattle.std.proofs.lemmas.Bool.Decides.{leb_tells}
use Rattle.std.proofs.lemmas.Cmp.{nat_cmp_total, on_total, then_total, tied_itself}
use Rattle.std.proofs.lemmas.List.{get_or_default}
use Rattle.std.proofs.lemmas.List.Sorted.{ranks_by, sorted_far}
use Rattle.std.proofs.lemmas.Map.Keys.{ge_from_not_lt}
use Rattle.std.specs.Cmp.Lexicographic.{options_total}
use Rattle.std.specs.Option.{option_cmp}
use Rattle.rdf_graph.specs.declared.triple.Triple.{Triple}
use Rattle.rdf_graph.specs.ByObject.{place_cmp}
use Rattle.rdf_graph.specs.Graphs.{object_at}
use Rattle.rdf_graph.specs.Terms.{term_cmp}
use Rattle.rdf_graph.proofs.TermLaws.{terms_total}
use Rattle.rdf_graph.proofs.Comparisons.{is_behind, less_number, second_lt}
use Rattle.rdf_graph.proofs.Halving.{parted_below}

module _ {K : Type 0} (key : ℕ → K) (R : K → K → Ordering) where
  -- by key, and then by the number
  abbrev pub by_key : ℕ → ℕ → Ordering
  by_key = then_cmp (on key R) nat_cmp

  -- of a lesser key than this one, or of this one and less than a number
  abbrev pub is_in_front : K → ℕ → ℕ → Bool
  is_in_front k from place = is_lt (ordering_then (R (key place) k) (nat_cmp place from))

module _ {K : Type 0} (key : ℕ → K) (R : K → K → Ordering) (total : IsTotalOrder R) where
  by_key_total : IsTotalOrder (by_key key R)
  by_key_total = then_total (on_total key total) nat_cmp_total

  pairs_total : IsTotalOrder (then_cmp (on (λ (p : K × ℕ). p.0) R) (on (λ (p : K × ℕ). p.1) nat_cmp))
  pairs_total = then_total (on_total (λ (p : K × ℕ). p.0) total) (on_total (λ (p : K × ℕ). p.1) nat_cmp_total)

  pub parted : (places : List ℕ) → IsSorted (by_key key R) places → (k : K) (from : ℕ) → IsPartitionedBy (is_in_front key R k from) places
  parted places up k from = parted_below (λ place. (key place, place)) _ pairs_total places up (k, from)

-- a search for a key, from a number on, ends behind so many numbers
pub record Ends {K : Type 0} (key : ℕ → K) (R : K → K → Ordering) (places : List ℕ) (k : K) (from count : ℕ) : Type 0 where
  pub total : IsTotalOrder R
  pub same : IsAntisymmetric R
  pub up : IsSorted (by_key key R) places
  pub point : IsPartitionPoint (λ place. is_in_front key R k from place ≡ true) (λ place. is_in_front key R k from place ≡ false) places count

module _ {K : Type 0} {key : ℕ → K} {R : K → K → Ordering} {places : List ℕ} {k : K} {from count : ℕ} (ends : Ends key R places k from count) where
  tie : (j : K) → j ≡ k → R j k ≡ Equal
  tie j e = subst (λ (x : K). R x k ≡ Equal) (sym e) (tied_itself ends.total k)

  -- a place with the key, in front of where the search ends, is less than the number
  early : (i place : ℕ) → get_or places i place ≡ place → key place ≡ k → i < count → place < from
  early i place is e lt =
      let front = subst (λ n. is_in_front key R k from n ≡ true) is (ends.point.0 i place (omega arith) lt) in
      less_number place from (sym (second_lt (R (key place) k) (nat_cmp place from) (tie (key place) e)) ∙ front)

  -- of two places the one that stands behind is not less
  no_less : (i j m n : ℕ) → i ≤ j → j < length places → get_or places i m ≡ m → get_or places j n ≡ n → is_lt (by_key key R n m) ≡ false
  no_less i j m n le lt is_m is_n =
      subst (λ x. is_lt (by_key key R x m) ≡ false) (get_or_default places j m n lt ∙ is_n)
      (subst (λ x. is_lt (by_key key R (get_or places j m) x) ≡ false) is_m
      (sorted_far (λ a b. is_lt (by_key key R a b)) (ranks_by (by_key_total key R ends.total) (λ x. x)) places ends.up i j m le lt))

  -- there is none where the search ends past the last
  pub none_left : length places ≤ count → (other : ℕ) → Contains places other → key other ≡ k → other < from
  none_left out other c e = early c.0 other c.2 e (let lt = c.1 in omega arith)

  module _ (place : ℕ) (within : count < length places) (is : get_or places count place ≡ place) where
    behind : is_in_front key R k from place ≡ false
    behind = subst (λ n. is_in_front key R k from n ≡ false) is (ends.point.1 count place (omega arith) within)

    -- where it ends at a place with the key, this is the next one
    pub from_on : key place ≡ k → from ≤ place
    from_on e = ge_from_not_lt place from (sym (second_lt (R (key place) k) (nat_cmp place from) (tie (key place) e)) ∙ behind)

    pub is_next : key place ≡ k → (other : ℕ) → from ≤ other → other < place → Contains places other → key other ≡ k → ⊥
    is_next e other le lt c f =
        elim (leb_tells count c.0) as (λ _. ⊥) [
          | inl h ↦
              let later = no_less count c.0 place other h.1 c.1 is c.2 in
              let tied : R (key other) (key place) ≡ Equal = subst (λ (x : K). R (key other) x ≡ Equal) (sym e) (tie (key other) f) in
              let ge = ge_from_not_lt other place (sym (second_lt (R (key other) (key place)) (nat_cmp other place) tied) ∙ later) in
              omega arith
          | inr h ↦ let less = early c.0 other c.2 f h.1 in omega arith
        ]

    -- where it ends at another one, there is none
    pub none_there : (key place ≡ k → ⊥) → (other : ℕ) → from ≤ other → Contains places other → key other ≡ k → ⊥
    none_there differs other le c f =
        elim (leb_tells count c.0) as (λ _. ⊥) [
          | inl h ↦
              let later = no_less count c.0 place other h.1 c.1 is c.2 in
              let greater = is_behind (R (key place) k) (nat_cmp place from) behind (λ t. differs (ends.same (key place) k t)) in
              let less : R (key other) (key place) ≡ Less = subst (λ (x : K). R x (key place) ≡ Less) (sym f) (ends.total.antisymm k (key place) ∙ ap ordering_reverse greater) in
              true≢false (sym (ap (λ o. is_lt (ordering_then o (nat_cmp other place))) less) ∙ later)
          | inr h ↦ let less = early c.0 other c.2 f h.1 in omega arith
        ]

-- the order of the places of triples
pub places_total : (triples : List Triple) → IsTotalOrder (place_cmp triples)
places_total triples = by_key_total (object_at triples) (option_cmp term_cmp) (options_total terms_total)
