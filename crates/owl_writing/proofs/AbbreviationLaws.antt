-- The best prefix for an IRI is the one that a table answers.
use Rattle.std.proofs.Common.{◌≡◌, ◌⊎◌, ◌<◌, ◌≤◌, inl, inr, ℕ, Bool, true, false, List, [], ◌∷◌, length, Option, Some, None, Contains, refl, sym, ap, ◌∙◌, subst, arith}
use Rattle.std.specs.Prelude.{nat_eq, nat_le, if◌then◌else◌}
use Rattle.std.specs.declared.cmp.Ordering.TheVariants.{Less}
use Rattle.std.specs.List.{AllByRecursion, list_all, starts_with}
use Rattle.std.specs.Ordering.{ordering_reverse}
use Rattle.std.proofs.lemmas.Bool.{and_from, and_parts, both_ways, leb-false, leb-true}
use Rattle.std.proofs.lemmas.Bool.Decides.{Decides-eqb}
use Rattle.std.proofs.lemmas.List.Prefix.{front_rest}
use Rattle.std.proofs.lemmas.Option.{get_or_from_slice_get, slice_get_within}
use Rattle.std.proofs.lemmas.Slice.Eq.{starts_is}
use Rattle.owl_list.proofs.AscendingLaws.{all_in, in_cases, in_head, in_none, in_tail}
use Rattle.owl_characters.specs.Order.{text_cmp}
use Rattle.owl_characters.specs.OrderLaws.{texts_total}
use Rattle.owl_characters.proofs.AllAreLaws.{all_are}
use Rattle.owl_atom.specs.declared.prefixes.Prefix.{Prefix}
use Rattle.owl_atom.specs.Prefixes.{AreAscending, Cuts, IsBetter, IsPlainLocal, Shortens, is_plain_character}
use Rattle.owl_atom.specs.PrefixLaws.{earlier_better}
use Rattle.owl_writing.specs.Abbreviations.{best_prefix, cuts, is_plain_local, local_behind, longer_of}

-- the test and the fact that a prefix cuts an IRI

pub plain_fact : (cs : List ℕ) → is_plain_local cs ≡ true → IsPlainLocal cs
plain_fact [] h = absurd (cc)
plain_fact (c ∷ cs) h = let both = and_parts _ (list_all is_plain_character cs) h in (both.0, (all_are is_plain_character cs).0 both.1)

plain_test : (cs : List ℕ) → IsPlainLocal cs → is_plain_local cs ≡ true
plain_test [] h = absurd h
plain_test (c ∷ cs) h = and_from _ (list_all is_plain_character cs) h.0 ((all_are is_plain_character cs).1 h.1)

pub cuts_fact : (iri : List ℕ) (prefix : Prefix) → cuts iri prefix ≡ true → Cuts prefix iri (local_behind prefix iri)
cuts_fact iri prefix h =
    let both = and_parts (starts_with nat_eq iri prefix.iri) (is_plain_local (local_behind prefix iri)) h in
    record { parts = (starts_is Decides-eqb iri prefix.iri (starts_with nat_eq iri prefix.iri) refl).0 both.0; plain = plain_fact (local_behind prefix iri) both.1 }

-- what is behind the IRI of a prefix is the local part
pub local_is : (iri : List ℕ) (prefix : Prefix) (local : List ℕ) → Cuts prefix iri local → local_behind prefix iri ≡ local
local_is iri prefix local h = front_rest iri prefix.iri local h.parts

pub cuts_test : (iri : List ℕ) (prefix : Prefix) (local : List ℕ) → Cuts prefix iri local → cuts iri prefix ≡ true
cuts_test iri prefix local h =
    and_from (starts_with nat_eq iri prefix.iri) (is_plain_local (local_behind prefix iri))
    ((starts_is Decides-eqb iri prefix.iri (starts_with nat_eq iri prefix.iri) refl).1 local h.parts)
    (ap is_plain_local (local_is iri prefix local h) ∙ plain_test local h.plain)

-- which of two is better

less_once : (a b : List ℕ) → text_cmp a b ≡ Less → text_cmp b a ≡ Less → ⊥
less_once a b h k = let e : text_cmp a b ≡ ordering_reverse (text_cmp b a) = texts_total.antisymm a b in absurd (cc)

one_better : (p q : Prefix) → IsBetter p q → IsBetter q p → ⊥
one_better p q (inl h) (inl k) = absurd (omega arith)
one_better p q (inl h) (inr k) = let e = k.0 in absurd (omega arith)
one_better p q (inr h) (inl k) = let e = h.0 in absurd (omega arith)
one_better p q (inr h) (inr k) = less_once p.name q.name h.1 k.1

-- what the best prefix is

pub record IsBestFor (iri : List ℕ) (prefixes : List Prefix) (best : Prefix) : Type 0 where
  pub inside : Contains prefixes best
  pub cut : cuts iri best ≡ true
  pub others : (other : Prefix) (rest : List ℕ) → Contains prefixes other → Cuts other iri rest → (other ≡ best) ⊎ IsBetter best other

abbrev pub IsAnswer : List ℕ → List Prefix → Option Prefix → Type 0
IsAnswer iri prefixes None = (other : Prefix) (rest : List ℕ) → Contains prefixes other → Cuts other iri rest → ⊥
IsAnswer iri prefixes (Some best) = IsBestFor iri prefixes best

-- the length of an IRI that is no better than another
no_longer : (p o other : Prefix) → length o.iri ≤ length p.iri → (other ≡ o) ⊎ IsBetter o other → length other.iri ≤ length p.iri
no_longer p o other le (inl e) = subst (λ (q : Prefix). length q.iri ≤ length p.iri) (sym e) le
no_longer p o other le (inr (inl lt)) = omega arith
no_longer p o other le (inr (inr h)) = let e = h.0 in omega arith

module _ (iri : List ℕ) (p : Prefix) (prefixes : List Prefix) where
  is_passed : cuts iri p ≡ false → (best : Option Prefix) → IsAnswer iri prefixes best → IsAnswer iri (p ∷ prefixes) best
  is_passed fails None h = λ other rest m cut. elim (in_cases p prefixes other m) [
    | inl e ↦ both_ways (cuts iri p) fails (cuts_test iri p rest (subst (λ (q : Prefix). Cuts q iri rest) (sym e) cut))
    | inr n ↦ h other rest n cut
  ]
  is_passed fails (Some best) h = record {
    inside = in_tail p prefixes best h.inside;
    cut = h.cut;
    others = λ other rest m cut. elim (in_cases p prefixes other m) as (λ _. (other ≡ best) ⊎ IsBetter best other) [
      | inl e ↦ absurd (both_ways (cuts iri p) fails (cuts_test iri p rest (subst (λ (q : Prefix). Cuts q iri rest) (sym e) cut)))
      | inr n ↦ h.others other rest n cut
    ];
  }

  compared : (o : Prefix) (b : Bool) → nat_le (length o.iri) (length p.iri) ≡ b → cuts iri p ≡ true → AllByRecursion (λ other. text_cmp p.name other.name ≡ Less) prefixes → IsBestFor iri prefixes o → IsBestFor iri (p ∷ prefixes) (if b then p else o)
  compared o true e passed below h =
      let le = leb-true (length o.iri) (length p.iri) e in
      record {
        inside = in_head p prefixes;
        cut = passed;
        others = λ other rest m cut. elim (in_cases p prefixes other m) as (λ _. (other ≡ p) ⊎ IsBetter p other) [
          | inl same ↦ inl (sym same)
          | inr n ↦ inr (earlier_better p other (no_longer p o other le (h.others other rest n cut)) (all_in (λ (q : Prefix). text_cmp p.name q.name ≡ Less) prefixes other below n))
        ];
      }
  compared o false e passed below h =
      let lt = leb-false (length o.iri) (length p.iri) e in
      record {
        inside = in_tail p prefixes o h.inside;
        cut = h.cut;
        others = λ other rest m cut. elim (in_cases p prefixes other m) as (λ _. (other ≡ o) ⊎ IsBetter o other) [
          | inl same ↦ inr (inl (subst (λ (q : Prefix). length q.iri < length o.iri) same lt))
          | inr n ↦ h.others other rest n cut
        ];
      }

  comes : cuts iri p ≡ true → AllByRecursion (λ other. text_cmp p.name other.name ≡ Less) prefixes → (best : Option Prefix) → IsAnswer iri prefixes best → IsBestFor iri (p ∷ prefixes) (longer_of p best)
  comes passed below None h = record {
    inside = in_head p prefixes;
    cut = passed;
    others = λ other rest m cut. elim (in_cases p prefixes other m) as (λ _. (other ≡ p) ⊎ IsBetter p other) [
      | inl same ↦ inl (sym same)
      | inr n ↦ absurd (h other rest n cut)
    ];
  }
  comes passed below (Some o) h = compared o (nat_le (length o.iri) (length p.iri)) refl passed below h

answer_by : (iri : List ℕ) (p : Prefix) (prefixes : List Prefix) (b : Bool) → cuts iri p ≡ b → AllByRecursion (λ other. text_cmp p.name other.name ≡ Less) prefixes → IsAnswer iri prefixes (best_prefix iri prefixes) → IsAnswer iri (p ∷ prefixes) (if b then Some (longer_of p (best_prefix iri prefixes)) else best_prefix iri prefixes)
answer_by iri p prefixes true e below h = comes iri p prefixes e below (best_prefix iri prefixes) h
answer_by iri p prefixes false e below h = is_passed iri p prefixes e (best_prefix iri prefixes) h

pub best_answer : (iri : List ℕ) (prefixes : List Prefix) → AreAscending prefixes → IsAnswer iri prefixes (best_prefix iri prefixes)
best_answer iri [] up = λ other rest m cut. in_none other m
best_answer iri (p ∷ prefixes) up = answer_by iri p prefixes (cuts iri p) refl up.0 (best_answer iri prefixes up.1)

-- it is the one that a table answers

same_best : (p q : Prefix) → (p ≡ q) ⊎ IsBetter q p → (q ≡ p) ⊎ IsBetter p q → p ≡ q
same_best p q (inl e) k = e
same_best p q (inr h) (inl e) = sym e
same_best p q (inr h) (inr k) = absurd (one_better q p h k)

answered : (prefixes : List Prefix) (iri : List ℕ) (place begin : ℕ) (s : Shortens prefixes iri place begin) (best : Option Prefix) → IsAnswer iri prefixes best → best ≡ Some s.prefix
answered prefixes iri place begin s None h =
    absurd (h s.prefix s.local (place, slice_get_within prefixes place s.prefix s.stands, get_or_from_slice_get prefixes place s.prefix s.prefix s.stands) s.cuts)
answered prefixes iri place begin s (Some best) h =
    let inside : Contains prefixes s.prefix = (place, slice_get_within prefixes place s.prefix s.stands, get_or_from_slice_get prefixes place s.prefix s.prefix s.stands) in
    ap Some (same_best best s.prefix (s.best best (local_behind best iri) h.inside (cuts_fact iri best h.cut)) (h.others s.prefix s.local inside s.cuts))

-- the prefix by which a table shortens an IRI is the best one, and its local part is what is behind it
pub best_is_shortest : (prefixes : List Prefix) (iri : List ℕ) (place begin : ℕ) → AreAscending prefixes → (s : Shortens prefixes iri place begin) → best_prefix iri prefixes ≡ Some s.prefix
best_is_shortest prefixes iri place begin up s = answered prefixes iri place begin s (best_prefix iri prefixes) (best_answer iri prefixes up)

pub shortest_local : (prefixes : List Prefix) (iri : List ℕ) (place begin : ℕ) → (s : Shortens prefixes iri place begin) → local_behind s.prefix iri ≡ s.local
shortest_local prefixes iri place begin s = local_is iri s.prefix s.local s.cuts

none_answered : (iri : List ℕ) (prefixes : List Prefix) (best : Option Prefix) → IsAnswer iri prefixes best → ((prefix : Prefix) (local : List ℕ) → Contains prefixes prefix → Cuts prefix iri local → ⊥) → best ≡ None
none_answered iri prefixes None h none = refl
none_answered iri prefixes (Some best) h none = absurd (none best (local_behind best iri) h.inside (cuts_fact iri best h.cut))

-- where no prefix cuts the IRI there is no best one
pub none_is_best : (prefixes : List Prefix) (iri : List ℕ) → AreAscending prefixes → ((prefix : Prefix) (local : List ℕ) → Contains prefixes prefix → Cuts prefix iri local → ⊥) → best_prefix iri prefixes ≡ None
none_is_best prefixes iri up none = none_answered iri prefixes (best_prefix iri prefixes) (best_answer iri prefixes up) none
