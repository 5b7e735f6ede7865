-- Language tags, by one character after another.
use Rattle.std.proofs.Common.{◌≡◌, inl, inr, ℕ, Bool, true, false, ◌&&◌, List, [], ◌∷◌, ◌++◌, refl, sym, ap, ◌∙◌, subst, arith}
use Rattle.std.specs.Char.{is_ascii_alphabetic, is_ascii_alphanumeric}
use Rattle.std.specs.List.{AllByRecursion, slice_split, onto_first}
use Rattle.std.proofs.lemmas.Bool.{cases_Bool, cond-true, cond-false, and_from, and_parts}
use Rattle.std.proofs.lemmas.Bool.Decides.{nat_tests}
use Rattle.owl_characters.specs.Iri.{AllAre}
use Rattle.owl_characters.specs.Names.{IsLanguageTag, AreSubtags, IsRunOf, is_hyphen}
use Rattle.owl_characters.specs.Subtags.{tag_fits, test_behind}

-- a part of a subtag, and then subtags
abbrev pub AreParts : (ℕ → Bool) → Bool → List (List ℕ) → Type 0
AreParts test some [] = ⊥
AreParts test true (first ∷ others) = AllAre test first × AllByRecursion (IsRunOf is_ascii_alphanumeric) others
AreParts test false (first ∷ others) = IsRunOf test first × AllByRecursion (IsRunOf is_ascii_alphanumeric) others

parts_behind_hyphen : (test : ℕ → Bool) (some : Bool) (parts : List (List ℕ)) → some ≡ true → AreParts is_ascii_alphanumeric false parts → AreParts test some ([] ∷ parts)
parts_behind_hyphen test some [] s h = absurd h
parts_behind_hyphen test true (first ∷ others) s h = (tt, (h.0, h.1))
parts_behind_hyphen test false (first ∷ others) s h = cc

hyphen_before_parts : (test : ℕ → Bool) (some : Bool) (first : List ℕ) (others : List (List ℕ)) → AreParts test some ([] ∷ (first ∷ others)) → (some ≡ true) × AreParts is_ascii_alphanumeric false (first ∷ others)
hyphen_before_parts test true first others h = (refl, (h.1.0, h.1.1))
hyphen_before_parts test false first others h = absurd h.0

parts_onto : (test : ℕ → Bool) (some : Bool) (c : ℕ) (parts : List (List ℕ)) → test c ≡ true → AreParts test true parts → AreParts test some (onto_first c parts)
parts_onto test some c [] t h = absurd h
parts_onto test true c (first ∷ others) t h = ((t, h.0), h.1)
parts_onto test false c (first ∷ others) t h = ((t, h.0), h.1)

parts_from_onto : (test : ℕ → Bool) (some : Bool) (c : ℕ) (first : List ℕ) (others : List (List ℕ)) → AreParts test some (onto_first c (first ∷ others)) → (test c ≡ true) × AreParts test true (first ∷ others)
parts_from_onto test true c first others h = (h.0.0, (h.0.1, h.1))
parts_from_onto test false c first others h = (h.0.0, (h.0.1, h.1))

tag_parts : (test : ℕ → Bool) (some : Bool) (cs : List ℕ) → tag_fits test some cs ≡ true → AreParts test some (slice_split is_hyphen cs)
tag_parts test true [] h = (tt, tt)
tag_parts test false [] h = cc
tag_parts test some (c ∷ cs) h = elim (cases_Bool (is_hyphen c)) [
  | inl x ↦
      let k = sym (cond-true (is_hyphen c) (some && tag_fits is_ascii_alphanumeric false cs) (test c && tag_fits test true cs) x) ∙ h in
      let b = and_parts some (tag_fits is_ascii_alphanumeric false cs) k in
      subst (λ (x : List (List ℕ)). AreParts test some x) (sym (cond-true (is_hyphen c) ([] ∷ slice_split is_hyphen cs) (onto_first c (slice_split is_hyphen cs)) x)) (parts_behind_hyphen test some (slice_split is_hyphen cs) b.0 (tag_parts is_ascii_alphanumeric false cs b.1))
  | inr x ↦
      let k = sym (cond-false (is_hyphen c) (some && tag_fits is_ascii_alphanumeric false cs) (test c && tag_fits test true cs) x) ∙ h in
      let b = and_parts (test c) (tag_fits test true cs) k in
      subst (λ (x : List (List ℕ)). AreParts test some x) (sym (cond-false (is_hyphen c) ([] ∷ slice_split is_hyphen cs) (onto_first c (slice_split is_hyphen cs)) x)) (parts_onto test some c (slice_split is_hyphen cs) b.0 (tag_parts test true cs b.1))
]

split_some : (p : ℕ → Bool) (cs : List ℕ) → (first : List ℕ) × (others : List (List ℕ)) × (slice_split p cs ≡ first ∷ others)
split_some p [] = ([], [], refl)
split_some p (c ∷ cs) = elim (cases_Bool (p c)) [
  | inl x ↦ ([], slice_split p cs, cond-true (p c) ([] ∷ slice_split p cs) (onto_first c (slice_split p cs)) x)
  | inr x ↦
      let o = split_some p cs in
      (c ∷ o.0, o.1, cond-false (p c) ([] ∷ slice_split p cs) (onto_first c (slice_split p cs)) x ∙ ap (onto_first c) o.2)
]

parts_tag : (test : ℕ → Bool) (some : Bool) (cs : List ℕ) → AreParts test some (slice_split is_hyphen cs) → tag_fits test some cs ≡ true
parts_tag test true [] h = refl
parts_tag test false [] h = absurd h.0
parts_tag test some (c ∷ cs) h =
    let o = split_some is_hyphen cs in
    elim (cases_Bool (is_hyphen c)) [
      | inl x ↦
          let k = subst (λ (x : List (List ℕ)). AreParts test some x) (cond-true (is_hyphen c) ([] ∷ slice_split is_hyphen cs) (onto_first c (slice_split is_hyphen cs)) x ∙ ap (λ (y : List (List ℕ)). [] ∷ y) o.2) h in
          let b = hyphen_before_parts test some o.0 o.1 k in
          cond-true (is_hyphen c) (some && tag_fits is_ascii_alphanumeric false cs) (test c && tag_fits test true cs) x ∙ and_from some (tag_fits is_ascii_alphanumeric false cs) b.0 (parts_tag is_ascii_alphanumeric false cs (subst (λ (x : List (List ℕ)). AreParts is_ascii_alphanumeric false x) (sym o.2) b.1))
      | inr x ↦
          let k = subst (λ (x : List (List ℕ)). AreParts test some x) (cond-false (is_hyphen c) ([] ∷ slice_split is_hyphen cs) (onto_first c (slice_split is_hyphen cs)) x ∙ ap (onto_first c) o.2) h in
          let b = parts_from_onto test some c o.0 o.1 k in
          cond-false (is_hyphen c) (some && tag_fits is_ascii_alphanumeric false cs) (test c && tag_fits test true cs) x ∙ and_from (test c) (tag_fits test true cs) b.0 (parts_tag test true cs (subst (λ (x : List (List ℕ)). AreParts test true x) (sym o.2) b.1))
    ]

subtags : (parts : List (List ℕ)) → AreParts is_ascii_alphabetic false parts → AreSubtags parts
subtags [] h = h
subtags (first ∷ others) h = h

subtags_back : (parts : List (List ℕ)) → AreSubtags parts → AreParts is_ascii_alphabetic false parts
subtags_back [] h = h
subtags_back (first ∷ others) h = h

pub tag_from_fits : (cs : List ℕ) → tag_fits is_ascii_alphabetic false cs ≡ true → IsLanguageTag cs
tag_from_fits cs h = subtags (slice_split is_hyphen cs) (tag_parts is_ascii_alphabetic false cs h)

pub tag_to_fits : (cs : List ℕ) → IsLanguageTag cs → tag_fits is_ascii_alphabetic false cs ≡ true
tag_to_fits cs h = parts_tag is_ascii_alphabetic false cs (subtags_back (slice_split is_hyphen cs) h)

pub tag_behind : (test : ℕ → Bool) (some : Bool) (xs ys : List ℕ) → tag_fits test some xs ≡ true → tag_fits test some (xs ++ ys) ≡ true → tag_fits (test_behind test xs) true ys ≡ true
tag_behind test true [] ys h k = k
tag_behind test false [] ys h k = cc
tag_behind test some (c ∷ cs) ys h k = elim (cases_Bool (is_hyphen c)) [
  | inl x ↦
      let h2 = and_parts some (tag_fits is_ascii_alphanumeric false cs) (sym (cond-true (is_hyphen c) _ (test c && tag_fits test true cs) x) ∙ h) in
      let k2 = and_parts some (tag_fits is_ascii_alphanumeric false (cs ++ ys)) (sym (cond-true (is_hyphen c) _ (test c && tag_fits test true (cs ++ ys)) x) ∙ k) in
      subst (λ (t : ℕ → Bool). tag_fits t true ys ≡ true) (sym (cond-true (is_hyphen c) (test_behind is_ascii_alphanumeric cs) (test_behind test cs) x)) (tag_behind is_ascii_alphanumeric false cs ys h2.1 k2.1)
  | inr x ↦
      let h2 = and_parts (test c) (tag_fits test true cs) (sym (cond-false (is_hyphen c) (some && tag_fits is_ascii_alphanumeric false cs) _ x) ∙ h) in
      let k2 = and_parts (test c) (tag_fits test true (cs ++ ys)) (sym (cond-false (is_hyphen c) (some && tag_fits is_ascii_alphanumeric false (cs ++ ys)) _ x) ∙ k) in
      subst (λ (t : ℕ → Bool). tag_fits t true ys ≡ true) (sym (cond-false (is_hyphen c) (test_behind is_ascii_alphanumeric cs) (test_behind test cs) x)) (tag_behind test true cs ys h2.1 k2.1)
]

pub alphanumeric_from : (test : ℕ → Bool) → ((c : ℕ) → test c ≡ true → is_ascii_alphanumeric c ≡ true) → (cs : List ℕ) (c : ℕ) → test_behind test cs c ≡ true → is_ascii_alphanumeric c ≡ true
alphanumeric_from test f [] c h = f c h
alphanumeric_from test f (d ∷ ds) c h = elim (cases_Bool (is_hyphen d)) [
  | inl x ↦ alphanumeric_from is_ascii_alphanumeric (λ c k. k) ds c (sym (ap (λ (t : ℕ → Bool). t c) (cond-true (is_hyphen d) (test_behind is_ascii_alphanumeric ds) (test_behind test ds) x)) ∙ h)
  | inr x ↦ alphanumeric_from test f ds c (sym (ap (λ (t : ℕ → Bool). t c) (cond-false (is_hyphen d) (test_behind is_ascii_alphanumeric ds) (test_behind test ds) x)) ∙ h)
]

pub alphabetic_is_alphanumeric : (c : ℕ) → is_ascii_alphabetic c ≡ true → is_ascii_alphanumeric c ≡ true
alphabetic_is_alphanumeric c h = grind (arith, nat_tests)
