-- An index of a table of prefixes: how it is made, and what it tells of an IRI.
use Rattle.std.proofs.Common.{◌≡◌, ◌<◌, ◌+◌, ◌⊎◌, inl, inr, ℕ, suc, List, [], ◌∷◌, ◌++◌, length, get_or, take, drop, take-append-drop, take-suc, Option, Some, None, refl, sym, ap, ◌∙◌, subst, arith, true}
use Rattle.std.specs.Prelude.{slice_get, map, Contains}
use Rattle.std.specs.declared.cmp.Ordering.{Ordering}
use Rattle.std.specs.declared.cmp.Ordering.TheVariants.{Less, Equal, Greater}
use Rattle.std.specs.Ordering.{nat_cmp, ordering_then}
use Rattle.std.specs.List.Sorted.{IsPermutation, IsStrictlySortedBy}
use Rattle.std.specs.Str.{IsCharBoundary, IsUtf8, all_scalars, chars, encode_utf8_all}
use Rattle.std.specs.FinMap.{IsAntisymmetric, nat_cmp-IsAntisymmetric}
use Rattle.std.specs.Cmp.{IsTotalOrder}
use Rattle.std.proofs.lemmas.Cmp.{nat_cmp_total, on_total, then_total}
use Rattle.std.proofs.lemmas.List.Elements.{Contains-append_left, Contains-push, Contains-push_cases}
use Rattle.std.proofs.lemmas.Option.{get_or_from_slice_get, same_Some, slice_get_within}
use Rattle.std.proofs.lemmas.Str.{IsCharBoundary-at_seam, IsUtf8-take, encodes-append, encodes-chars}
use Rattle.owl_characters.proofs.Utf8Laws.{scalars_behind}
use Rattle.std.proofs.lemmas.List.{append_cancel_left}
use Rattle.std.proofs.lemmas.List.Sorted.{Contains-permutation}
use Rattle.owl_list.specs.Ascending.{ascending}
use Rattle.owl_list.proofs.AscendingLaws.{ascending_ascends, ascending_holds, in_map, in_none}
use Rattle.owl_characters.specs.Order.{text_cmp}
use Rattle.owl_characters.specs.OrderLaws.{same_texts, texts_total}
use Rattle.owl_atom.specs.declared.by_iri.ByIri.{ByIri}
use Rattle.owl_atom.specs.declared.by_iri.Front.{Front}
use Rattle.owl_atom.specs.declared.prefixes.Prefix.{Prefix}
use Rattle.owl_atom.specs.ByIri.{AreFronts, IsFirst, IsFrontOf, IsIndex, front_cmp, of_size, size_of, sized}
use Rattle.owl_atom.specs.Places.{IsBest, IsBestOf, first, longer}
use Rattle.owl_atom.specs.Prefixes.{AreAscending, Cuts, IsBetter, IsPlainLocal}
use Rattle.owl_atom.proofs.LocalParts.{cut_characters}
use Rattle.owl_atom.proofs.PrefixTables.{ascends}
use Rattle.owl_atom.proofs.Shortening.{at_or_before, best_of_both, fewer, same_fronts, same_sizes}

-- the order of fronts

pub fronts_total : IsTotalOrder front_cmp
fronts_total = then_total (on_total (λ f. f.iri) texts_total) (on_total (λ f. f.place) nat_cmp_total)

then_tied : (a b : Ordering) → ordering_then a b ≡ Equal → (a ≡ Equal) × (b ≡ Equal)
then_tied Less b e = absurd (cc)
then_tied Equal b e = (refl, e)
then_tied Greater b e = absurd (cc)

both : {a b : List ℕ} {m n : ℕ} → a ≡ b → m ≡ n → ◌≡◌ {A = Front} (record { iri = a; place = m }) (record { iri = b; place = n })
both e f = cc

pub only_equal_fronts_tie : IsAntisymmetric front_cmp
only_equal_fronts_tie a b e =
    let tied = then_tied (text_cmp a.iri b.iri) (nat_cmp a.place b.place) e in
    both (same_texts a.iri b.iri tied.0) (nat_cmp-IsAntisymmetric a.place b.place tied.1)

-- one more front

pub more_fronts : (prefixes : List Prefix) (n : ℕ) (fronts : List Front) (prefix : Prefix) (iri : List ℕ) → slice_get prefixes n ≡ Some prefix → iri ≡ prefix.iri → AreFronts prefixes n fronts → AreFronts prefixes (n + 1) (fronts ++ record { iri = iri; place = n } ∷ [])
more_fronts prefixes n fronts prefix iri at_n iri_is are front = (
  λ c. elim (Contains-push_cases fronts (record { iri = iri; place = n }) front c) as (λ _. IsFrontOf prefixes (n + 1) front) [
    | inl old ↦ let it = (are front).0 old in let lt = it.0 in (omega arith, it.1)
    | inr e ↦ subst (IsFrontOf prefixes (n + 1)) e (omega arith, (prefix, at_n, sym iri_is))
  ],
  λ it. elim (at_or_before n front.place it.0) as (λ _. Contains (fronts ++ record { iri = iri; place = n } ∷ []) front) [
    | inl lt ↦ Contains-append_left fronts _ front ((are front).1 (lt, it.1))
    | inr e ↦
        let same : prefix ≡ it.1.0 = same_Some prefix it.1.0 (sym at_n ∙ ap (slice_get prefixes) (sym e) ∙ it.1.1) in
        let is : ◌≡◌ {A = Front} (record { iri = iri; place = n }) front = both (iri_is ∙ ap (λ (q : Prefix). q.iri) same ∙ it.1.2) (sym e) in
        subst (Contains (fronts ++ record { iri = iri; place = n } ∷ [])) is (Contains-push fronts (record { iri = iri; place = n }))
  ],
)

pub no_fronts : (prefixes : List Prefix) → AreFronts prefixes 0 []
no_fronts prefixes front = (λ c. absurd (in_none front c), λ it. absurd (let lt = it.0 in omega arith))

-- what is made of fronts and lengths is an index
pub index_of : (prefixes : List Prefix) (fronts : List Front) (lengths arranged : List ℕ) (index : ByIri) → AreFronts prefixes (length prefixes) fronts → index.fronts.items ≡ ascending front_cmp fronts → lengths ≡ map size_of prefixes → arranged ≡ ascending nat_cmp lengths → IsPermutation arranged index.lengths.items → IsIndex prefixes index
index_of prefixes fronts lengths arranged index are is_fronts is_lengths is turned = record {
  ascending = subst (IsStrictlySortedBy front_cmp) (sym is_fronts) (ascending_ascends front_cmp fronts_total fronts);
  fronts = subst (AreFronts prefixes (length prefixes)) (sym is_fronts)
      (λ front. (λ c. (are front).0 ((ascending_holds front_cmp fronts_total only_equal_fronts_tie fronts front).0 c), λ it. (ascending_holds front_cmp fronts_total only_equal_fronts_tie fronts front).1 ((are front).1 it)));
  lengths = λ place prefix stands. Contains-permutation arranged index.lengths.items (size_of prefix) turned
      (subst (λ ns. Contains ns (size_of prefix)) (sym (is ∙ ap (ascending nat_cmp) is_lengths))
      ((ascending_holds nat_cmp nat_cmp_total nat_cmp-IsAntisymmetric (map size_of prefixes) (size_of prefix)).1
      (in_map size_of prefixes prefix (place, slice_get_within prefixes place prefix stands, get_or_from_slice_get prefixes place prefix prefix stands))));
}

-- of one length there is no better one than the best so far, unless it is longer
pub one_more_length : (prefixes : List Prefix) (lengths : List ℕ) (n : ℕ) (iri : List ℕ) (best cut : Option (ℕ × ℕ)) → IsBest prefixes (sized lengths) iri best → IsBest prefixes (of_size n) iri cut → IsBest prefixes (sized (lengths ++ n ∷ [])) iri (longer best cut)
one_more_length prefixes lengths n iri best cut =
    best_of_both prefixes (sized lengths) (of_size n) (sized (lengths ++ n ∷ [])) iri
    (λ k p c. elim (Contains-push_cases lengths n (size_of p) c) as (λ _. sized lengths k p ⊎ of_size n k p) [ inl h ↦ inl h | inr e ↦ inr (sym e) ])
    (λ k p c. Contains-append_left lengths (n ∷ []) (size_of p) c)
    (λ k p e. subst (Contains (lengths ++ n ∷ [])) (sym e) (Contains-push lengths n))
    (λ place begin old k other rest e stands cuts le.
    elim (at_or_before (length old.prefix.iri) (length other.iri) (omega arith)) as (λ _. (other ≡ old.prefix) ⊎ IsBetter old.prefix other) [
      | inl lt ↦ inr (inl lt)
      | inr same ↦
          let iris : other.iri ≡ old.prefix.iri = same_fronts other.iri old.prefix.iri rest old.cuts.local (sym cuts.parts ∙ old.cuts.cuts.parts) same in
          old.best k other rest (subst (Contains lengths) (ap (λ t. length (encode_utf8_all t)) (sym iris)) old.within) stands cuts
    ])
    best cut

-- of one length there is no better one than a longer one
pub shorter_length : (prefixes : List Prefix) (lengths : List ℕ) (n : ℕ) (iri : List ℕ) (place begin : ℕ) → n < begin → IsBest prefixes (sized lengths) iri (Some (place, begin)) → IsBest prefixes (sized (lengths ++ n ∷ [])) iri (Some (place, begin))
shorter_length prefixes lengths n iri place begin lt old = record {
  prefix = old.prefix;
  within = Contains-append_left lengths (n ∷ []) (size_of old.prefix) old.within;
  stands = old.stands;
  cuts = old.cuts;
  best = λ k other rest c stands cuts. elim (Contains-push_cases lengths n (size_of other) c) as (λ _. (other ≡ old.prefix) ⊎ IsBetter old.prefix other) [
    | inl h ↦ old.best k other rest h stands cuts
    | inr e ↦ let begins = old.cuts.begins in inr (inl (fewer other.iri old.prefix.iri rest old.cuts.local (sym cuts.parts ∙ old.cuts.cuts.parts) (omega arith)))
  ];
}

pub no_lengths : (prefixes : List Prefix) (iri : List ℕ) → IsBest prefixes (sized []) iri None
no_lengths prefixes iri k other c stands local cut = in_none (size_of other) c

-- the lengths are those of all prefixes
pub of_all : (prefixes : List Prefix) (index : ByIri) (iri : List ℕ) (best : Option (ℕ × ℕ)) → IsIndex prefixes index → IsBest prefixes (sized index.lengths.items) iri best → IsBest prefixes (first (length prefixes)) iri best
of_all prefixes index iri None is h = λ k other lt stands. h k other (is.lengths k other stands) stands
of_all prefixes index iri (Some (place, begin)) is h = record {
  prefix = h.prefix;
  within = slice_get_within prefixes place h.prefix h.stands;
  stands = h.stands;
  cuts = h.cuts;
  best = λ k other rest lt stands cuts. h.best k other rest (is.lengths k other stands) stands cuts;
}

-- the fronts of all are those that a table has
pub all_fronts : (prefixes : List Prefix) (n : ℕ) (fronts : List Front) → n ≡ length prefixes → AreFronts prefixes n fronts → AreFronts prefixes (length prefixes) fronts
all_fronts prefixes n fronts e are = subst (λ k. AreFronts prefixes k fronts) e are

-- the lengths so far, and one more
pub next_length : (prefixes : List Prefix) (lengths : List ℕ) (i n : ℕ) (iri : List ℕ) (result : Option (ℕ × ℕ)) → i < length lengths → n ≡ get_or lengths i 0 → IsBest prefixes (sized (take i lengths ++ n ∷ [])) iri result → IsBest prefixes (sized (take (i + 1) lengths)) iri result
next_length prefixes lengths i n iri result lt is best =
    let next : suc i ≡ i + 1 = omega arith in
    let so_far : take i lengths ++ n ∷ [] ≡ take (i + 1) lengths = ap (λ k. take i lengths ++ k ∷ []) is ∙ sym (take-suc lengths i 0 lt) ∙ ap (λ k. take k lengths) next in
    subst (λ ns. IsBest prefixes (sized ns) iri result) so_far best

-- a cut at one byte

pub record IsCut (iri : List ℕ) (n : ℕ) (front local : List ℕ) : Type 0 where
  pub parts : iri ≡ front ++ local
  pub size : length (encode_utf8_all front) ≡ n
  pub boundary : IsCharBoundary (encode_utf8_all iri) n

pub cut_of : (text front local iri : List ℕ) (n : ℕ) → IsUtf8 text → chars text ≡ iri → text ≡ encode_utf8_all iri → IsCharBoundary text n → front ≡ take n text → local ≡ drop n text → length front ≡ n → IsCut iri n (chars front) (chars local)
cut_of text front local iri n u is_chars is_bytes b is_front is_local size =
    let front_is : IsUtf8 front = subst IsUtf8 (sym is_front) (IsUtf8-take text n u b) in
    let whole : text ≡ front ++ local = sym (take-append-drop n text) ∙ ap (λ x. x ++ drop n text) (sym is_front) ∙ ap (λ x. front ++ x) (sym is_local) in
    record {
      parts = cut_characters text front local iri (chars front) front_is whole is_chars refl;
      size = ap (λ (x : List ℕ). length x) (encodes-chars front front_is) ∙ size;
      boundary = subst (λ x. IsCharBoundary x n) is_bytes b;
    }

module _ (prefixes : List Prefix) (index : ByIri) (iri : List ℕ) (n : ℕ) (up : AreAscending prefixes) (is : IsIndex prefixes index) where
  front_at : (place : ℕ) (prefix : Prefix) → slice_get prefixes place ≡ Some prefix → Contains index.fronts.items (record { iri = prefix.iri; place = place })
  front_at place prefix stands = (is.fronts (record { iri = prefix.iri; place = place })).1 (slice_get_within prefixes place prefix stands, (prefix, stands, refl))

  -- the IRI has no character boundary there
  pub no_boundary : (text : List ℕ) → all_scalars iri ≡ true → text ≡ encode_utf8_all iri → (IsCharBoundary text n → ⊥) → IsBest prefixes (of_size n) iri None
  no_boundary text scalars bytes never k other e stands local cut =
      never (subst (IsCharBoundary text) e
      (IsCharBoundary-at_seam text (encode_utf8_all other.iri) (encode_utf8_all local) (bytes ∙ ap encode_utf8_all cut.parts ∙ encodes-append other.iri local)
      (local, (scalars_behind other.iri local (ap all_scalars (sym cut.parts) ∙ scalars), refl))))

  module _ (front local : List ℕ) (it : IsCut iri n front local) where
    -- prefixes of this length that cut the IRI have one IRI
    one_iri : (other : Prefix) (rest : List ℕ) → size_of other ≡ n → Cuts other iri rest → other.iri ≡ front
    one_iri other rest e cut = same_sizes other.iri front rest local (sym cut.parts ∙ it.parts) (e ∙ sym it.size)

    pub not_plain : (IsPlainLocal local → ⊥) → IsBest prefixes (of_size n) iri None
    not_plain never k other e stands rest cut =
        let same = one_iri other rest e cut in
        never (subst IsPlainLocal (append_cancel_left front rest local (ap (λ t. t ++ rest) (sym same) ∙ sym cut.parts ∙ it.parts)) cut.plain)

    pub no_such : ((place : ℕ) → Contains index.fronts.items (record { iri = front; place = place }) → ⊥) → IsBest prefixes (of_size n) iri None
    no_such none k other e stands rest cut =
        none k (subst (λ t. Contains index.fronts.items (record { iri = t; place = k })) (one_iri other rest e cut) (front_at k other stands))

    pub the_first : (place : ℕ) → IsPlainLocal local → IsFirst index.fronts.items front place → IsBestOf prefixes (of_size n) iri place n
    the_first place plain at_first =
        let found = (is.fronts (record { iri = front; place = place })).0 at_first.stands in
        let prefix : Prefix = found.1.0 in
        let size_is : size_of prefix ≡ n = ap (λ t. length (encode_utf8_all t)) found.1.2 ∙ it.size in
        record {
          prefix = prefix;
          within = size_is;
          stands = found.1.1;
          cuts = record {
            local = local;
            cuts = record { parts = it.parts ∙ ap (λ t. t ++ local) (sym found.1.2); plain = plain };
            begins = sym size_is;
            boundary = it.boundary;
          };
          best = λ k other rest e stands cut.
              let same = one_iri other rest e cut in
              let le = at_first.first k (subst (λ t. Contains index.fronts.items (record { iri = t; place = k })) same (front_at k other stands)) in
              elim (at_or_before k place (omega arith)) as (λ _. (other ≡ prefix) ⊎ IsBetter prefix other) [
                | inl lt ↦ inr (inr (ap (λ (t : List ℕ). length t) (same ∙ sym found.1.2), ascends prefixes place k prefix other up lt found.1.1 stands))
                | inr here ↦ inl (same_Some other prefix (sym stands ∙ ap (slice_get prefixes) (sym here) ∙ found.1.1))
              ];
        }
