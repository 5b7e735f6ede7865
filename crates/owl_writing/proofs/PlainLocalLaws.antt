-- A plain local part is written as it stands.
use Rattle.std.proofs.Common.{◌≡◌, inl, inr, ℕ, Bool, true, false, List, [], ◌∷◌, map, codes, refl, sym, ap, ◌∙◌}
use Rattle.std.specs.Prelude.{flat_map, ◌||◌, ◌==◌}
use Rattle.std.specs.Char.{is_ascii_digit}
use Rattle.std.specs.Int.{is_in_range}
use Rattle.std.specs.List.{AllByRecursion}
use Rattle.std.proofs.lemmas.Bool.{cases_Bool, eqb-true, false_from_ne_true, or_cases, or_left, or_right}
use Rattle.owl_characters.specs.Iri.{AllAre, is_among}
use Rattle.owl_characters.specs.Names.{AreLocalPieces, IsPieceOf, SpellsLocal, ends_in_plain_dot, in_ranges, is_base, is_local_inner, is_local_start, is_part, is_start, part_ranges, piece_spelling, piece_text, plain, start_ranges}
use Rattle.owl_characters.proofs.CutLaws.{both}
use Rattle.owl_atom.specs.Prefixes.{IsPlainLocal, is_plain_character, is_plain_start}
use Rattle.owl_atom.specs.PrefixLaws.{start_is_plain}

-- characters of plain local parts

letter_is_base : (c : ℕ) → (is_in_range 65 90 c || is_in_range 97 122 c) ≡ true → is_base c ≡ true
letter_is_base c h = elim (cases_Bool (is_in_range 65 90 c)) as (λ _. is_base c ≡ true) [
  | inl upper ↦ rw upper
  | inr other ↦ let lower : is_in_range 97 122 c ≡ true = rw other at h in rw (other, lower)
]

base_is_start : (c : ℕ) → is_base c ≡ true → is_start c ≡ true
base_is_start c h = or_left (is_base c) (in_ranges start_ranges c) h

start_is_part : (c : ℕ) → is_start c ≡ true → is_part c ≡ true
start_is_part c h = or_left (is_start c) (in_ranges part_ranges c) h

one_of_one : (n c : ℕ) (test : ℕ → Bool) → is_among (n ∷ []) c ≡ true → test n ≡ true → test c ≡ true
one_of_one n c test h t = elim (or_cases (n == c) false h) as (λ _. test c ≡ true) [
  | inl e ↦ ap test (sym (eqb-true n c e)) ∙ t
  | inr e ↦ cc
]

start_stands : (c : ℕ) → is_plain_start c ≡ true → is_local_start c ≡ true
start_stands c h = elim (or_cases (is_in_range 65 90 c || is_in_range 97 122 c) (is_among (codes "_") c) h) as (λ _. is_local_start c ≡ true) [
  | inl letter ↦ or_left (is_start c || is_ascii_digit c) (is_among (codes ":") c) (or_left (is_start c) (is_ascii_digit c) (base_is_start c (letter_is_base c letter)))
  | inr mark ↦ one_of_one 95 c is_local_start mark refl
]

part_stands : (c : ℕ) → is_part c ≡ true → is_local_inner c ≡ true
part_stands c h = or_left (is_part c) (is_among (codes ".:") c) h

digit_is_part : (c : ℕ) → is_in_range 48 57 c ≡ true → is_part c ≡ true
digit_is_part c h = or_right (is_start c) (in_ranges part_ranges c) (or_right (is_in_range 45 45 c) _ (or_left (is_in_range 48 57 c) _ h))

inner_stands : (c : ℕ) → is_plain_character c ≡ true → is_local_inner c ≡ true
inner_stands c h = elim (or_cases ((is_in_range 48 57 c || is_in_range 65 90 c) || is_in_range 97 122 c) (is_among (codes "_-") c) h) as (λ _. is_local_inner c ≡ true) [
  | inl k ↦ elim (or_cases (is_in_range 48 57 c || is_in_range 65 90 c) (is_in_range 97 122 c) k) as (λ _. is_local_inner c ≡ true) [
    | inl m ↦ elim (or_cases (is_in_range 48 57 c) (is_in_range 65 90 c) m) as (λ _. is_local_inner c ≡ true) [
      | inl digit ↦ part_stands c (digit_is_part c digit)
      | inr upper ↦ part_stands c (start_is_part c (base_is_start c (letter_is_base c (or_left (is_in_range 65 90 c) (is_in_range 97 122 c) upper))))
    ]
    | inr lower ↦ part_stands c (start_is_part c (base_is_start c (letter_is_base c (or_right (is_in_range 65 90 c) (is_in_range 97 122 c) lower))))
  ]
  | inr k ↦ elim (or_cases (95 == c) (is_among (codes "-") c) k) as (λ _. is_local_inner c ≡ true) [
    | inl e ↦ ap is_local_inner (sym (eqb-true 95 c e))
    | inr mark ↦ one_of_one 45 c is_local_inner mark refl
  ]
]

no_dot : (c : ℕ) → is_plain_character c ≡ true → is_among (codes ".") c ≡ false
no_dot c h = false_from_ne_true (is_among (codes ".") c) (λ t. elim (or_cases (46 == c) false t) [
  | inl e ↦ both is_plain_character c 46 (sym (eqb-true 46 c e)) h refl
  | inr e ↦ cc
])

-- its pieces are its characters

plain_spelling : (cs : List ℕ) → cs ≡ flat_map piece_spelling (map plain cs)
plain_spelling [] = refl
plain_spelling (c ∷ cs) = ap (λ (x : List ℕ). c ∷ x) (plain_spelling cs)

plain_text : (cs : List ℕ) → cs ≡ flat_map piece_text (map plain cs)
plain_text [] = refl
plain_text (c ∷ cs) = ap (λ (x : List ℕ). c ∷ x) (plain_text cs)

plain_inner : (cs : List ℕ) → AllAre is_plain_character cs → AllByRecursion (IsPieceOf is_local_inner) (map plain cs)
plain_inner [] h = tt
plain_inner (c ∷ cs) h = (inner_stands c h.0, plain_inner cs h.1)

plain_no_dot : (c : ℕ) (cs : List ℕ) → AllAre is_plain_character (c ∷ cs) → ends_in_plain_dot (map plain (c ∷ cs)) ≡ false
plain_no_dot c [] h = no_dot c h.0
plain_no_dot c (d ∷ cs) h = plain_no_dot d cs h.1

plain_pieces : (cs : List ℕ) → IsPlainLocal cs → AreLocalPieces (map plain cs)
plain_pieces [] h = absurd h
plain_pieces (c ∷ cs) h = (start_stands c h.0, plain_inner cs h.1, plain_no_dot c cs (start_is_plain c h.0, h.1))

pub spells_plain : (cs : List ℕ) → IsPlainLocal cs → SpellsLocal cs cs
spells_plain cs h = record { pieces = map plain cs; pieces_fit = plain_pieces cs h; spelled = plain_spelling cs; stands_for = plain_text cs }

pub spells_nothing : SpellsLocal [] []
spells_nothing = record { pieces = []; pieces_fit = tt; spelled = refl; stands_for = refl }
