-- The characters of names may stand in IRIs.
use Rattle.std.proofs.Common.{subst, ◌≡◌, ℕ, ◌≤◌, ◌<◌, Bool, true, not, ◌&&◌, ◌||◌, List, [], ◌∷◌, ◌++◌, refl, sym, ap, ◌∙◌, inl, inr, arith}
use Rattle.std.specs.Prelude.{codes, flat_map, nat_lt, nat_le, ◌==◌}
use Rattle.std.specs.Char.{is_ascii_digit, is_ascii_hexdigit}
use Rattle.std.specs.Int.{is_in_range}
use Rattle.std.specs.List.{AllByRecursion, list_all}
use Rattle.std.proofs.lemmas.Bool.{and_parts, and_from, or_cases, eqb-true, not_from_false, false_from_ne_true, both_ways, not-true, leb-true, ltb-true, lt-ltb}
use Rattle.owl_characters.specs.Iri.{AllAre, is_among, is_iri_character}
use Rattle.owl_characters.specs.Names.{in_ranges, base_ranges, start_ranges, part_ranges, is_base, is_start, is_part, is_local_start, is_local_inner, Piece, plain, percent, escaped, IsPieceOf, piece_text, AreLocalPieces, SpellsLocal}

-- what no IRI has behind its scheme
abbrev marks : List ℕ
marks = codes "<>\"{}|^`\\"

-- a range that lies above the controls and the space, and has none of the marks
abbrev pub is_clear : ℕ × ℕ → Bool
is_clear range = nat_lt 32 range.0 && list_all (λ mark. not (is_in_range range.0 range.1 mark)) marks

apart : (ms : List ℕ) (range : ℕ × ℕ) (c : ℕ) → list_all (λ mark. not (is_in_range range.0 range.1 mark)) ms ≡ true → is_in_range range.0 range.1 c ≡ true → is_among ms c ≡ true → ⊥
apart [] range c h e m = cc
apart (x ∷ ms) range c h e m =
    let both = and_parts (not (is_in_range range.0 range.1 x)) (list_all (λ mark. not (is_in_range range.0 range.1 mark)) ms) h in
    elim (or_cases (x == c) (is_among ms c) m) [
      | inl same ↦ both_ways (is_in_range range.0 range.1 x) (not-true (is_in_range range.0 range.1 x) both.0) (ap (λ y. is_in_range range.0 range.1 y) (eqb-true x c same) ∙ e)
      | inr other ↦ apart ms range c both.1 e other
    ]

clear_range : (range : ℕ × ℕ) (c : ℕ) → is_clear range ≡ true → is_in_range range.0 range.1 c ≡ true → is_iri_character c ≡ true
clear_range range c h e =
    let both = and_parts (nat_lt 32 range.0) (list_all (λ mark. not (is_in_range range.0 range.1 mark)) marks) h in
    let above : 32 < range.0 = ltb-true 32 range.0 both.0 in
    let least : range.0 ≤ c = leb-true range.0 c (and_parts (nat_le range.0 c) (nat_le c range.1) e).0 in
    and_from (nat_lt 32 c) (not (is_among marks c)) (lt-ltb 32 c (omega arith)) (not_from_false (is_among marks c) (false_from_ne_true (is_among marks c) (apart marks range c both.1 e)))

clear_ranges : (ranges : List (ℕ × ℕ)) (c : ℕ) → list_all is_clear ranges ≡ true → in_ranges ranges c ≡ true → is_iri_character c ≡ true
clear_ranges [] c h e = cc
clear_ranges (range ∷ ranges) c h e =
    let both = and_parts (is_clear range) (list_all is_clear ranges) h in
    elim (or_cases (is_in_range range.0 range.1 c) (in_ranges ranges c) e) [
      | inl here ↦ clear_range range c both.0 here
      | inr there ↦ clear_ranges ranges c both.1 there
    ]

clear_marks : (ms : List ℕ) (c : ℕ) → list_all is_iri_character ms ≡ true → is_among ms c ≡ true → is_iri_character c ≡ true
clear_marks [] c h e = cc
clear_marks (x ∷ ms) c h e =
    let both = and_parts (is_iri_character x) (list_all is_iri_character ms) h in
    elim (or_cases (x == c) (is_among ms c) e) [
      | inl here ↦ ap is_iri_character (sym (eqb-true x c here)) ∙ both.0
      | inr there ↦ clear_marks ms c both.1 there
    ]

base_clear : (c : ℕ) → is_base c ≡ true → is_iri_character c ≡ true
base_clear c e = clear_ranges base_ranges c refl e

start_clear : (c : ℕ) → is_start c ≡ true → is_iri_character c ≡ true
start_clear c e = elim (or_cases (is_base c) (in_ranges start_ranges c) e) [ inl h ↦ base_clear c h | inr h ↦ clear_ranges start_ranges c refl h ]

part_clear : (c : ℕ) → is_part c ≡ true → is_iri_character c ≡ true
part_clear c e = elim (or_cases (is_start c) (in_ranges part_ranges c) e) [ inl h ↦ start_clear c h | inr h ↦ clear_ranges part_ranges c refl h ]

digit_clear : (c : ℕ) → is_ascii_digit c ≡ true → is_iri_character c ≡ true
digit_clear c e = clear_range (48, 57) c refl e

hexdigit_clear : (c : ℕ) → is_ascii_hexdigit c ≡ true → is_iri_character c ≡ true
hexdigit_clear c e = elim (or_cases (is_in_range 48 57 c || is_in_range 65 70 c) (is_in_range 97 102 c) e) [
  | inl h ↦ elim (or_cases (is_in_range 48 57 c) (is_in_range 65 70 c) h) [ inl k ↦ clear_range (48, 57) c refl k | inr k ↦ clear_range (65, 70) c refl k ]
  | inr h ↦ clear_range (97, 102) c refl h
]

local_start_clear : (c : ℕ) → is_local_start c ≡ true → is_iri_character c ≡ true
local_start_clear c e = elim (or_cases (is_start c || is_ascii_digit c) (is_among (codes ":") c) e) [
  | inl h ↦ elim (or_cases (is_start c) (is_ascii_digit c) h) [ inl k ↦ start_clear c k | inr k ↦ digit_clear c k ]
  | inr h ↦ clear_marks (codes ":") c refl h
]

local_inner_clear : (c : ℕ) → is_local_inner c ≡ true → is_iri_character c ≡ true
local_inner_clear c e = elim (or_cases (is_part c) (is_among (codes ".:") c) e) [
  | inl h ↦ part_clear c h
  | inr h ↦ clear_marks (codes ".:") c refl h
]

-- each character that a piece stands for, and then what follows
piece_clear : (test : ℕ → Bool) → ((c : ℕ) → test c ≡ true → is_iri_character c ≡ true) → (piece : Piece) (rest : List ℕ) → IsPieceOf test piece → AllAre is_iri_character rest → AllAre is_iri_character (piece_text piece ++ rest)
piece_clear test clear (plain c) rest h more = (clear c h, more)
piece_clear test clear (percent a b) rest h more = (refl, (hexdigit_clear a h.0, (hexdigit_clear b h.1, more)))
piece_clear test clear (escaped c) rest h more = (clear_marks (codes "_~.-!$&'()*+,;=/?#@%") c refl h, more)

pieces_clear : (pieces : List Piece) → AllByRecursion (IsPieceOf is_local_inner) pieces → AllAre is_iri_character (flat_map piece_text pieces)
pieces_clear [] h = tt
pieces_clear (piece ∷ pieces) h = piece_clear is_local_inner local_inner_clear piece (flat_map piece_text pieces) h.0 (pieces_clear pieces h.1)

local_clear : (pieces : List Piece) → AreLocalPieces pieces → AllAre is_iri_character (flat_map piece_text pieces)
local_clear [] h = tt
local_clear (piece ∷ pieces) h = piece_clear is_local_start local_start_clear piece (flat_map piece_text pieces) h.0 (pieces_clear pieces h.1)

-- a local part stands for characters that may stand in an IRI
pub local_fits : (spelling text : List ℕ) → SpellsLocal spelling text → AllAre is_iri_character text
local_fits spelling text h = subst (AllAre is_iri_character) (sym h.stands_for) (local_clear h.pieces h.pieces_fit)
