-- An import names one document, each closure has one answer, and documents with the same heads have the same closure.
use Rattle.std.proofs.Common.{◌≡◌, ℕ, zero, suc, List, [], ◌∷◌, Option, IsSomeAnd, slice_get, inl, inr, refl, sym, subst, arith}
use Rattle.std.specs.declared.cmp.Ordering.{Ordering}
use Rattle.std.specs.declared.cmp.Ordering.TheVariants.{Less, Equal, Greater}
use Rattle.std.specs.Ordering.{nat_cmp}
use Rattle.std.proofs.lemmas.Bool.{cases_order}
use Rattle.std.proofs.lemmas.Cmp.{nat_cmp_total}
use Rattle.owl_characters.specs.Order.{text_cmp}
use Rattle.owl_characters.specs.OrderLaws.{same_texts, turned}
use Rattle.owl_list.proofs.AscendingLaws.{ascending_unique}
use Rattle.owl_tree.specs.Ontologies.{Head, IsSameHead, OntologyName}
use Rattle.owl_close.specs.Imports.{AreReached, HasImport, IsFirstMissing, IsMissing, IsNamedAt, IsNamedBy, Names, NamesNone, Reaches, import, main}

module _ (heads : List Head) where
  pub named_once : (iri : List ℕ) (a b : ℕ) → Names heads iri a → Names heads iri b → a ≡ b
  named_once iri a b h k =
      elim (cases_order a b) [
        | inl e ↦ e
        | inr m ↦ elim m [ inl l ↦ absurd (k.first a l h.named) | inr l ↦ absurd (h.first b l k.named) ]
      ]

  pub reached_once : (a b : List ℕ) → AreReached heads a → AreReached heads b → a ≡ b
  reached_once a b h k =
      ascending_unique nat_cmp nat_cmp_total a b h.ascending k.ascending
      (λ place. (λ m. (k.reached place).1 ((h.reached place).0 m), λ m. (h.reached place).1 ((k.reached place).0 m)))

  least_once : (iri other : List ℕ) (o : Ordering) → text_cmp iri other ≡ o → (o ≡ Less → ⊥) → (text_cmp other iri ≡ Less → ⊥) → iri ≡ other
  least_once iri other Less e h k = absurd (h refl)
  least_once iri other Equal e h k = same_texts iri other e
  least_once iri other Greater e h k = absurd (k (turned iri other e))

  pub missing_once : (a b : ℕ) (iri other : List ℕ) → IsFirstMissing heads a iri → IsFirstMissing heads b other → (a ≡ b) × (iri ≡ other)
  missing_once a b iri other h k =
      let lower = h.first b other k.missing in
      let upper = k.first a iri h.missing in
      let e : a ≡ b = omega arith in
      let there : IsMissing heads b iri = subst (λ (p : ℕ). IsMissing heads p iri) e h.missing in
      let here : IsMissing heads a other = subst (λ (p : ℕ). IsMissing heads p other) (sym e) k.missing in
      (e, least_once iri other (text_cmp iri other) refl (λ l. k.least iri there l) (λ l. h.least other here l))

-- one by one the same heads
abbrev pub AreAlike : List Head → List Head → Type 0
AreAlike [] [] = Unit {0}
AreAlike (a ∷ xs) (b ∷ ys) = IsSameHead a b × AreAlike xs ys
AreAlike xs ys = ⊥

pub alike_back : (xs ys : List Head) → AreAlike xs ys → AreAlike ys xs
alike_back [] [] s = tt
alike_back [] (b ∷ ys) s = absurd s
alike_back (a ∷ xs) [] s = absurd s
alike_back (a ∷ xs) (b ∷ ys) s =
    (record { name = sym s.0.name; imports = λ x. ((s.0.imports x).1, (s.0.imports x).0) }, alike_back xs ys s.1)

-- what holds at a place of the one holds at the same place of the other
pub at_place : (P Q : Head → Type 0) → ((a b : Head) → IsSameHead a b → P a → Q b) → (xs ys : List Head) → AreAlike xs ys → (place : ℕ) → IsSomeAnd (slice_get xs place) P → IsSomeAnd (slice_get ys place) Q
at_place P Q f [] ys s place h = absurd h
at_place P Q f (a ∷ xs) [] s place h = absurd s
at_place P Q f (a ∷ xs) (b ∷ ys) s zero h = f a b s.0 h
at_place P Q f (a ∷ xs) (b ∷ ys) s (suc place) h = at_place P Q f xs ys s.1 place h

named_alike : (xs ys : List Head) → AreAlike xs ys → (iri : List ℕ) (place : ℕ) → IsNamedAt xs iri place → IsNamedAt ys iri place
named_alike xs ys s iri place h =
    at_place (λ head. IsNamedBy head iri) (λ head. IsNamedBy head iri) (λ a b e n. subst (λ (name : Option OntologyName). IsNamedBy (record { name = name; imports = [] }) iri) e.name n) xs ys s place h

import_alike : (xs ys : List Head) → AreAlike xs ys → (place : ℕ) (iri : List ℕ) → HasImport xs place iri → HasImport ys place iri
import_alike xs ys s place iri h = at_place _ _ (λ a b e m. (e.imports iri).0 m) xs ys s place h

names_alike : (xs ys : List Head) → AreAlike xs ys → (iri : List ℕ) (place : ℕ) → Names xs iri place → Names ys iri place
names_alike xs ys s iri place h = record {
  named = named_alike xs ys s iri place h.named;
  first = λ other l n. h.first other l (named_alike ys xs (alike_back xs ys s) iri other n);
}

none_alike : (xs ys : List Head) → AreAlike xs ys → (iri : List ℕ) → NamesNone xs iri → NamesNone ys iri
none_alike xs ys s iri h = λ place n. h place (named_alike ys xs (alike_back xs ys s) iri place n)

pub reaches_alike : (xs ys : List Head) → AreAlike xs ys → (place : ℕ) → Reaches xs place → Reaches ys place
reaches_alike xs ys s place main = main
reaches_alike xs ys s place (import from to r i) =
    import from to (reaches_alike xs ys s from r) (record { iri = i.iri; import = import_alike xs ys s from i.iri i.import; names = names_alike xs ys s i.iri to i.names })

pub missing_alike : (xs ys : List Head) → AreAlike xs ys → (place : ℕ) (iri : List ℕ) → IsMissing xs place iri → IsMissing ys place iri
missing_alike xs ys s place iri h = record {
  reached = reaches_alike xs ys s place h.reached;
  import = import_alike xs ys s place iri h.import;
  none = none_alike xs ys s iri h.none;
}

pub first_missing_alike : (xs ys : List Head) → AreAlike xs ys → (place : ℕ) (iri : List ℕ) → IsFirstMissing xs place iri → IsFirstMissing ys place iri
first_missing_alike xs ys s place iri h =
    let t = alike_back xs ys s in
    record {
      missing = missing_alike xs ys s place iri h.missing;
      first = λ other theirs m. h.first other theirs (missing_alike ys xs t other theirs m);
      least = λ other m. h.least other (missing_alike ys xs t place other m);
    }
