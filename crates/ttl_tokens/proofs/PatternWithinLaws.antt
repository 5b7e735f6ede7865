-- A test that what one pattern matches another one does too, over sets of its own. It computes.
use Rattle.std.proofs.Common.{◌≡◌, inl, inr, ℕ, Bool, true, false, ◌&&◌, ◌||◌, nat_le, List, [], ◌∷◌, arith}
use Rattle.std.specs.Prelude.{slice_index_or}
use Rattle.std.specs.List.{list_all}
use Rattle.std.proofs.lemmas.Bool.{and_parts, or_cases, or_left, or_right}
use Rattle.std.proofs.lemmas.Bool.Decides.{nat_tests}
use Rattle.owl_lexer.specs.Grammars.{CharacterSet, has, is_in_ranges, test_of}
use Rattle.owl_lexer.specs.Grammars.CharacterSet.{inside}
use Rattle.owl_lexer.proofs.PatternLaws.{joins_as}
use Rattle.owl_lexer.specs.Patterns.{Matches, Pattern}
use Rattle.owl_lexer.specs.Patterns.Pattern.{empty, one, both, either, many}
use Rattle.owl_lexer.proofs.TableCheckLaws.{lies_in_one}

-- each range of the first set lies in a range of the second
abbrev is_set_within : CharacterSet → CharacterSet → Bool
is_set_within (inside ranges) (inside others) = list_all (λ range. lies_in_one range.0 range.1 others) ranges
is_set_within set other = false

-- What the first pattern matches, over the first sets, the second does over the others. A test by their forms, so it may fail
-- where this holds.
abbrev pub is_within : List CharacterSet → List CharacterSet → Pattern → Pattern → Bool
is_within sets others empty empty = true
is_within sets others (one m) (one n) = is_set_within (slice_index_or sets m (inside [])) (slice_index_or others n (inside []))
is_within sets others (both p q) (both a b) = is_within sets others p a && is_within sets others q b
is_within sets others (many p) (many a) = is_within sets others p a
is_within sets others (either p q) a = is_within sets others p a && is_within sets others q a
is_within sets others p (either a b) = is_within sets others p a || is_within sets others p b
is_within sets others p a = false

-- sets

between : (least first last most c : ℕ) → (nat_le least first && nat_le last most) ≡ true → (nat_le first c && nat_le c last) ≡ true → (nat_le least c && nat_le c most) ≡ true
between least first last most c h k = grind (arith, nat_tests)

in_one : (first last c : ℕ) (ranges : List (ℕ × ℕ)) → lies_in_one first last ranges ≡ true → (nat_le first c && nat_le c last) ≡ true → is_in_ranges ranges c ≡ true
in_one first last c [] h k = absurd (cc)
in_one first last c (range ∷ ranges) h k = elim (or_cases (nat_le range.0 first && nat_le last range.1) (lies_in_one first last ranges) h) [
  | inl x ↦ or_left (nat_le range.0 c && nat_le c range.1) (is_in_ranges ranges c) (between range.0 first last range.1 c x k)
  | inr x ↦ or_right (nat_le range.0 c && nat_le c range.1) (is_in_ranges ranges c) (in_one first last c ranges x k)
]

in_ranges_within : (ranges others : List (ℕ × ℕ)) (c : ℕ) → list_all (λ range. lies_in_one range.0 range.1 others) ranges ≡ true → is_in_ranges ranges c ≡ true → is_in_ranges others c ≡ true
in_ranges_within [] others c h k = absurd (cc)
in_ranges_within (range ∷ ranges) others c h k =
    let parts = and_parts (lies_in_one range.0 range.1 others) (list_all (λ range. lies_in_one range.0 range.1 others) ranges) h in
    elim (or_cases (nat_le range.0 c && nat_le c range.1) (is_in_ranges ranges c) k) [
      | inl x ↦ in_one range.0 range.1 c others parts.0 x
      | inr x ↦ in_ranges_within ranges others c parts.1 x
    ]

has_within : (set other : CharacterSet) (c : ℕ) → is_set_within set other ≡ true → has set c ≡ true → has other c ≡ true
has_within (inside ranges) (inside others) c h k = in_ranges_within ranges others c h k
has_within set other c h k = absurd (cc)

-- patterns

pub matches_within : (sets others : List CharacterSet) (p a : Pattern) → is_within sets others p a ≡ true → (cs : List ℕ) → Matches (test_of sets) p cs → Matches (test_of others) a cs
matches_within sets others empty empty h cs m = m
matches_within sets others (one s) (one n) h cs m =
    (m.0, has_within (slice_index_or sets s (inside [])) (slice_index_or others n (inside [])) m.0 h m.1, m.2)
matches_within sets others (both p q) (both a b) h cs m =
    let parts = and_parts (is_within sets others p a) (is_within sets others q b) h in
    (m.0, m.1, matches_within sets others p a parts.0 m.0 m.2, matches_within sets others q b parts.1 m.1 m.3, m.4)
matches_within sets others (many p) (many a) h cs m =
    (m.0, joins_as (Matches (test_of sets) p) (Matches (test_of others) a) (matches_within sets others p a h) m.0 cs m.1)
matches_within sets others (either p q) a h cs (inl m) =
    matches_within sets others p a (and_parts (is_within sets others p a) (is_within sets others q a) h).0 cs m
matches_within sets others (either p q) a h cs (inr m) =
    matches_within sets others q a (and_parts (is_within sets others p a) (is_within sets others q a) h).1 cs m
matches_within sets others p (either a b) h cs m = elim (or_cases (is_within sets others p a) (is_within sets others p b) h) [
  | inl x ↦ inl (matches_within sets others p a x cs m)
  | inr x ↦ inr (matches_within sets others p b x cs m)
]
matches_within sets others p a h cs m = absurd (cc)
