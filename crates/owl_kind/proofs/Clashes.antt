-- Which IRIs of a table of marks clash.
use Rattle.std.proofs.Common.{◌≡◌, ◌↔◌, ℕ, ◌⊎◌, inl, inr, Bool, true, ◌||◌, List, [], ◌∷◌, Option, Some, None, refl, sym, ◌∙◌, subst, option_map, IsNone, IfSome}
use Rattle.std.specs.Prelude.{Contains}
use Rattle.std.specs.declared.cmp.Ordering.TheVariants.{Less, Equal, Greater}
use Rattle.std.specs.List.{filter, fold, reduce}
use Rattle.std.specs.Map.{values_of}
use Rattle.std.specs.Map.Iter.{deref}
use Rattle.std.specs.Ordering.{min_by_ordering}
use denote.Ref.{Bor}
use Rattle.std.proofs.lemmas.Bool.{and_from, and_parts, or_cases, or_left, or_right, true≢false}
use Rattle.std.proofs.lemmas.Cmp.{tied_itself}
use Rattle.std.proofs.lemmas.Map.Made.{Contains-values_of}
use Rattle.std.proofs.lemmas.Option.{none-some, same_Some}
use Rattle.owl_characters.specs.Order.{text_cmp}
use Rattle.owl_characters.specs.OrderLaws.{same_texts, texts_total, turned}
use Rattle.owl_kind.specs.declared.kind.Kind.{Kind}
use Rattle.owl_kind.specs.declared.kind.Kind.TheVariants.{Class, Datatype, ObjectProperty, DataProperty, AnnotationProperty}
use Rattle.owl_kind.specs.Kinds.{HasBoth, HasClash, IsFirstClash, SharesKinds}
use Rattle.owl_kind.specs.Marks.{Entry, HasMark, IsTable, clashes, clashing, declared_by, is_of, is_of_both, least_that_clashes, lesser, marks_at}
use Rattle.owl_kind.proofs.Declarations.{declared_at, declared_of_marks, has_kind, marked_entry, marks_of_entry}
use Rattle.owl_list.proofs.AscendingLaws.{all_in, from_map, in_cases, in_head, in_map, in_none, in_tail}
use Rattle.owl_list.proofs.FilterLaws.{IsKept, from_filter, in_filter}

has_both : (es : List Entry) → IsTable es → (iri : List ℕ) (a b : Kind) → (is_of_both (iri, marks_at es iri) a b ≡ true) ↔ HasBoth (declared_by es) a b iri
has_both es t iri a b =
    let e : Entry = (iri, marks_at es iri) in
    let left = has_kind es t iri a in
    let right = has_kind es t iri b in (
      (λ h. let both = and_parts (is_of e a) (is_of e b) h in (left.0 both.0, right.0 both.1)),
      (λ h. and_from (is_of e a) (is_of e b) (left.1 h.0) (right.1 h.1)),
    )

-- four tests, and what each of them tells
some_of_four : (a b c d : Bool) (A B C D : Type 0) → ((a ≡ true) ↔ A) → ((b ≡ true) ↔ B) → ((c ≡ true) ↔ C) → ((d ≡ true) ↔ D) → ((a || b || c || d) ≡ true) ↔ (A ⊎ (B ⊎ (C ⊎ D)))
some_of_four a b c d A B C D p q r s = (
  (λ h.
      elim (or_cases (a || b || c) d h) [
        | inr w ↦ inr (inr (inr (s.0 w)))
        | inl k ↦
            elim (or_cases (a || b) c k) [
              | inr z ↦ inr (inr (inl (r.0 z)))
              | inl l ↦ elim (or_cases a b l) [ inl x ↦ inl (p.0 x) | inr y ↦ inr (inl (q.0 y)) ]
            ]
      ]),
  (λ h.
      elim h [
        | inl x ↦ or_left (a || b || c) d (or_left (a || b) c (or_left a b (p.1 x)))
        | inr k ↦
            elim k [
              | inl y ↦ or_left (a || b || c) d (or_left (a || b) c (or_right a b (q.1 y)))
              | inr l ↦
                  elim l [
                    | inl z ↦ or_left (a || b || c) d (or_right (a || b) c (r.1 z))
                    | inr w ↦ or_right (a || b || c) d (s.1 w)
                  ]
            ]
      ]),
)

shares_kinds : (es : List Entry) → IsTable es → (iri : List ℕ) → (clashes (iri, marks_at es iri) ≡ true) ↔ SharesKinds (declared_by es) iri
unfolding clashes
shares_kinds es t iri =
    some_of_four _ _ _ _ _ _ _ _
    (has_both es t iri Class Datatype)
    (has_both es t iri ObjectProperty DataProperty)
    (has_both es t iri ObjectProperty AnnotationProperty)
    (has_both es t iri DataProperty AnnotationProperty)

clash_of_entry : (es : List Entry) → IsTable es → (e : Entry) → Contains es e → clashes e ≡ true → HasClash (declared_by es) e.0
clash_of_entry es t e h k =
    let mark : HasMark e.1 = all_in HasMark (values_of es) e.1 t.marked (Contains-values_of es e.0 e.1 h) in
    record {
      kind = mark.0;
      declared = declared_of_marks es mark.0 e h mark.1;
      clash = (shares_kinds es t e.0).0 (subst (λ marks. clashes (e.0, marks) ≡ true) (sym (marks_of_entry es t e h)) k);
    }

entry_of_clash : (es : List Entry) → IsTable es → (iri : List ℕ) → HasClash (declared_by es) iri → Contains es (iri, marks_at es iri) × (clashes (iri, marks_at es iri) ≡ true)
entry_of_clash es t iri h =
    (marked_entry es iri h.kind ((declared_at es t h.kind iri).0 h.declared), (shares_kinds es t iri).1 h.clash)

-- the IRIs of the entries that clash, and no others
in_clashing : (es : List Entry) (e : Entry) → Contains es e → clashes e ≡ true → Contains (clashing es) e.0
in_clashing es e m k = in_map (λ (d : Entry). d.0) (filter clashes es) e (in_filter clashes es e m k)

record Clashing (es : List Entry) (iri : List ℕ) : Type 0 where
  pub entry : Entry
  pub kept : IsKept clashes es entry
  pub iri_is : entry.0 ≡ iri

from_clashing : (es : List Entry) (iri : List ℕ) → Contains (clashing es) iri → Clashing es iri
from_clashing es iri m =
    let value = from_map (λ (d : Entry). d.0) (filter clashes es) iri m in
    record { entry = value.element; kept = from_filter clashes es value.element value.inside; iri_is = value.value }

-- what lies before another lies before, or behind, one more
between : (a b c : List ℕ) → text_cmp a c ≡ Less → (text_cmp a b ≡ Less) ⊎ (text_cmp b c ≡ Less)
between a b c h =
    elim (text_cmp a b) as (λ o. text_cmp a b ≡ o → (text_cmp a b ≡ Less) ⊎ (text_cmp b c ≡ Less)) [
      | Less ↦ λ e. inl e
      | Equal ↦ λ e. inr (sym (texts_total.congr a b c e) ∙ h)
      | Greater ↦ λ e. inr (texts_total.trans b a c (turned a b e) h)
    ] refl

-- one of a list than which no other is less
record IsLeast (all : List (List ℕ)) (least : List ℕ) : Type 0 where
  pub inside : Contains all least
  pub none_less : (other : List ℕ) → Contains all other → text_cmp other least ≡ Less → ⊥

-- of two, the lesser: one of them, and neither is less
lesser_of : (a b : List ℕ) → IsLeast (a ∷ b ∷ []) (lesser a b)
lesser_of a b =
    elim (text_cmp a b) as (λ o. text_cmp a b ≡ o → IsLeast (a ∷ b ∷ []) (min_by_ordering o a b)) [
      | Less ↦ λ e. record { inside = in_head a (b ∷ []); none_less = before a (λ h. not_below_itself a h) (λ h. not_both a b e h) }
      | Equal ↦ λ e. record { inside = in_head a (b ∷ []); none_less = before a (λ h. not_below_itself a h) (λ h. not_below_itself a (subst (λ z. text_cmp z a ≡ Less) (sym (same_texts a b e)) h)) }
      | Greater ↦ λ e. record { inside = in_tail a (b ∷ []) b (in_head b []); none_less = before b (λ h. cc) (λ h. not_below_itself b h) }
    ] refl
  where
    not_below_itself : (c : List ℕ) → text_cmp c c ≡ Less → ⊥
    not_below_itself c h = let e = tied_itself texts_total c in cc

    not_both : (c d : List ℕ) → text_cmp c d ≡ Less → text_cmp d c ≡ Less → ⊥
    not_both c d h k = not_below_itself c (texts_total.trans c d c h k)

    before : (c : List ℕ) → (text_cmp a c ≡ Less → ⊥) → (text_cmp b c ≡ Less → ⊥) → (other : List ℕ) → Contains (a ∷ b ∷ []) other → text_cmp other c ≡ Less → ⊥
    before c p q other m h =
        elim (in_cases a (b ∷ []) other m) [
          | inl i ↦ p (subst (λ z. text_cmp z c ≡ Less) (sym i) h)
          | inr n ↦
              elim (in_cases b [] other n) [
                | inl i ↦ q (subst (λ z. text_cmp z c ≡ Less) (sym i) h)
                | inr k ↦ absurd (in_none other k)
              ]
        ]

-- what is least with the lesser of two in front is least with both
with_both : (a b : List ℕ) (more : List (List ℕ)) (least : List ℕ) → IsLeast (lesser a b ∷ more) least → IsLeast (a ∷ b ∷ more) least
with_both a b more least h =
    let two = lesser_of a b in record {
      inside =
          elim (in_cases (lesser a b) more least h.inside) [
            | inl i ↦ subst (Contains (a ∷ b ∷ more)) i (widened a b more (lesser a b) two.inside)
            | inr n ↦ in_tail a (b ∷ more) least (in_tail b more least n)
          ];
      none_less = λ other m k.
          elim (in_cases a (b ∷ more) other m) [
            | inl i ↦ of_two other (subst (Contains (a ∷ b ∷ [])) i (in_head a (b ∷ []))) k
            | inr n ↦
                elim (in_cases b more other n) [
                  | inl i ↦ of_two other (in_tail a (b ∷ []) other (subst (Contains (b ∷ [])) i (in_head b []))) k
                  | inr l ↦ h.none_less other (in_tail (lesser a b) more other l) k
                ]
          ];
    }
  where
    widened : (c d : List ℕ) (rest : List (List ℕ)) (z : List ℕ) → Contains (c ∷ d ∷ []) z → Contains (c ∷ d ∷ rest) z
    widened c d rest z m =
        elim (in_cases c (d ∷ []) z m) [
          | inl i ↦ subst (Contains (c ∷ d ∷ rest)) i (in_head c (d ∷ rest))
          | inr n ↦
              elim (in_cases d [] z n) [
                | inl i ↦ in_tail c (d ∷ rest) z (subst (Contains (d ∷ rest)) i (in_head d rest))
                | inr k ↦ absurd (in_none z k)
              ]
        ]

    of_two : (other : List ℕ) → Contains (a ∷ b ∷ []) other → text_cmp other least ≡ Less → ⊥
    of_two other m k =
        elim (between other (lesser a b) least k) [
          | inl u ↦ (lesser_of a b).none_less other m u
          | inr v ↦ h.none_less (lesser a b) (in_head (lesser a b) more) v
        ]

folded : (a : List ℕ) (more : List (List ℕ)) → IsLeast (a ∷ more) (fold lesser a more)
folded a [] = record {
  inside = in_head a [];
  none_less = λ other m h.
      elim (in_cases a [] other m) [
        | inl i ↦ let e = tied_itself texts_total a in let k = subst (λ z. text_cmp z a ≡ Less) (sym i) h in cc
        | inr n ↦ absurd (in_none other n)
      ];
}
folded a (b ∷ more) = with_both a b more _ (folded (lesser a b) more)

-- the least IRI that clashes, where there is one
least_is : (all : List (List ℕ)) (iri : List ℕ) → Some iri ≡ reduce lesser all → IsLeast all iri
least_is [] iri e = absurd (none-some iri (sym e))
least_is (a ∷ more) iri e = subst (IsLeast (a ∷ more)) (sym (same_Some iri _ e)) (folded a more)

nothing_least : (all : List (List ℕ)) → None ≡ reduce lesser all → all ≡ []
nothing_least [] e = refl
nothing_least (a ∷ more) e = absurd (none-some _ e)

first_clashing : (es : List Entry) → IsTable es → (iri : List ℕ) → Some iri ≡ least_that_clashes es → IsFirstClash (declared_by es) iri
first_clashing es t iri e =
    let least = least_is (clashing es) iri e in
    let found = from_clashing es iri least.inside in record {
      clash = subst (HasClash (declared_by es)) found.iri_is (clash_of_entry es t found.entry found.kept.inside found.kept.passes);
      first = λ other c less. let o = entry_of_clash es t other c in least.none_less other (in_clashing es (other, marks_at es other) o.0 o.1) less;
    }

none_clashing : (es : List Entry) → IsTable es → None ≡ least_that_clashes es → (iri : List ℕ) → HasClash (declared_by es) iri → ⊥
none_clashing es t e iri c =
    let o = entry_of_clash es t iri c in
    in_none iri (subst (λ xs. Contains xs iri) (nothing_least (clashing es) e) (in_clashing es (iri, marks_at es iri) o.0 o.1))

pub some_clash : (es : List Entry) → IsTable es → (r : Option (Bor (List ℕ))) → option_map deref r ≡ least_that_clashes es → IfSome r (λ iri. IsFirstClash (declared_by es) iri.now)
some_clash es t None e = tt
some_clash es t (Some iri) e = first_clashing es t iri.now e

pub no_clash : (es : List Entry) → IsTable es → (r : Option (Bor (List ℕ))) → option_map deref r ≡ least_that_clashes es → IsNone r ↔ ((iri : List ℕ) → HasClash (declared_by es) iri → ⊥)
no_clash es t None e = (λ _. none_clashing es t e, λ _. refl)
no_clash es t (Some iri) e = (λ h. absurd (true≢false h), λ h. absurd (h iri.now (first_clashing es t iri.now e).clash))
