-- Imports that name no document.
use Rattle.std.proofs.Common.{◌≡◌, inl, inr, ℕ, Bool, true, false, List, [], ◌∷◌, ◌++◌, Option, Some, None, IfNone, IfSome, cond, refl, sym, subst}
use Rattle.std.specs.declared.cmp.Ordering.{Ordering}
use Rattle.std.specs.declared.cmp.Ordering.TheVariants.{Less, Equal, Greater}
use Rattle.std.specs.Option.{is_some}
use Rattle.std.specs.Ordering.{is_lt}
use Rattle.std.proofs.lemmas.Cmp.{tied_itself}
use Rattle.std.proofs.lemmas.List.Elements.{Contains-append_left, Contains-push, Contains-push_cases}
use Rattle.owl_characters.specs.Order.{text_cmp}
use Rattle.owl_characters.specs.OrderLaws.{same_texts, texts_total, turned}
use Rattle.owl_close.specs.Imports.{HasImport, Names, NamesNone}
use Rattle.owl_close.specs.Searches.{FindsLeast, IsLeastMissing, lesser_of}
use Rattle.owl_tree.specs.Ontologies.{Head}

not_itself : (a : List ℕ) → text_cmp a a ≡ Less → ⊥
not_itself a e = let t = tied_itself texts_total a in cc

not_both : (a b : List ℕ) → text_cmp a b ≡ Less → text_cmp b a ≡ Less → ⊥
not_both a b e f = not_itself a (texts_total.trans a b a e f)

-- below what is not above another is below that one
below_by : (a b other : List ℕ) (o : Ordering) → text_cmp a b ≡ o → is_lt o ≡ false → text_cmp other b ≡ Less → text_cmp other a ≡ Less
below_by a b other Less e t l = absurd (cc)
below_by a b other Equal e t l = subst (λ (x : List ℕ). text_cmp other x ≡ Less) (sym (same_texts a b e)) l
below_by a b other Greater e t l = texts_total.trans other b a l (turned a b e)

is_less : (o : Ordering) → is_lt o ≡ true → o ≡ Less
is_less Less e = refl
is_less Equal e = cc
is_less Greater e = cc

module _ (heads : List Head) where
  -- each import of the document names one
  abbrev pub IsWhole : ℕ → Type 0
  IsWhole place = (iri : List ℕ) → HasImport heads place iri → NamesNone heads iri → ⊥

  -- what the search for a name tells
  pub names_one : (iri : List ℕ) (place : Option ℕ) → IfSome place (Names heads iri) → is_some place ≡ true → NamesNone heads iri → ⊥
  names_one iri None h t none = absurd (cc)
  names_one iri (Some place) h t none = none place h.named

  pub names_none : (iri : List ℕ) (place : Option ℕ) → IfNone place (NamesNone heads iri) → is_some place ≡ false → NamesNone heads iri
  names_none iri None h t = h
  names_none iri (Some place) h t = absurd (cc)

  module _ (imports : List (List ℕ)) (iri : List ℕ) where
    -- an import that names a document changes nothing
    kept_by : (found : Option (List ℕ)) → FindsLeast heads imports found → (NamesNone heads iri → ⊥) → FindsLeast heads (imports ++ iri ∷ []) found
    kept_by None h named = record {
      some = tt;
      none = λ other m none. elim (Contains-push_cases imports iri other m) [
        | inl k ↦ h.none other k none
        | inr e ↦ named (subst (λ (x : List ℕ). NamesNone heads x) (sym e) none)
      ];
    }
    kept_by (Some least) h named = record {
      some = record {
        inside = Contains-append_left imports (iri ∷ []) least h.some.inside;
        none = h.some.none;
        least = λ other m none l. elim (Contains-push_cases imports iri other m) [
          | inl k ↦ h.some.least other k none l
          | inr e ↦ named (subst (λ (x : List ℕ). NamesNone heads x) (sym e) none)
        ];
      };
      none = tt;
    }

    -- an import that names none is the least where it is below the one before
    lesser_at : (least : List ℕ) (lower : Bool) → IsLeastMissing heads imports least → NamesNone heads iri → is_lt (text_cmp least iri) ≡ lower → IsLeastMissing heads (imports ++ iri ∷ []) (cond lower least iri)
    lesser_at least true h none t = record {
      inside = Contains-append_left imports (iri ∷ []) least h.inside;
      none = h.none;
      least = λ other m n l. elim (Contains-push_cases imports iri other m) [
        | inl k ↦ h.least other k n l
        | inr e ↦ not_both least iri (is_less (text_cmp least iri) t) (subst (λ (x : List ℕ). text_cmp x least ≡ Less) (sym e) l)
      ];
    }
    lesser_at least false h none t = record {
      inside = Contains-push imports iri;
      none = none;
      least = λ other m n l. elim (Contains-push_cases imports iri other m) [
        | inl k ↦ h.least other k n (below_by least iri other (text_cmp least iri) refl t l)
        | inr e ↦ not_itself iri (subst (λ (x : List ℕ). text_cmp x iri ≡ Less) (sym e) l)
      ];
    }

    lesser_by : (found : Option (List ℕ)) → FindsLeast heads imports found → NamesNone heads iri → IsLeastMissing heads (imports ++ iri ∷ []) (lesser_of iri found)
    lesser_by None h none = record {
      inside = Contains-push imports iri;
      none = none;
      least = λ other m n l. elim (Contains-push_cases imports iri other m) [
        | inl k ↦ h.none other k n
        | inr e ↦ not_itself iri (subst (λ (x : List ℕ). text_cmp x iri ≡ Less) (sym e) l)
      ];
    }
    lesser_by (Some least) h none = lesser_at least (is_lt (text_cmp least iri)) h.some none refl

    pub finds_other : (old new : Option (List ℕ)) → FindsLeast heads imports old → (NamesNone heads iri → ⊥) → new ≡ old → FindsLeast heads (imports ++ iri ∷ []) new
    finds_other old new h named e = subst (λ (found : Option (List ℕ)). FindsLeast heads (imports ++ iri ∷ []) found) (sym e) (kept_by old h named)

    pub finds_lesser : (old new : Option (List ℕ)) → FindsLeast heads imports old → NamesNone heads iri → new ≡ Some (lesser_of iri old) → FindsLeast heads (imports ++ iri ∷ []) new
    finds_lesser old new h none e =
        subst (λ (found : Option (List ℕ)). FindsLeast heads (imports ++ iri ∷ []) found) (sym e) (record { some = lesser_by old h none; none = tt })
