-- Any bytes are characters, and then a tail that begins none.
use Rattle.std.proofs.Common.{◌≡◌, ◌⊎◌, inl, inr, ℕ, zero, suc, ◌+◌, ◌<◌, ◌≤◌, true, false, List, [], ◌∷◌, ◌++◌, length, take, drop, refl, sym, ap, ◌∙◌, subst, arith}
use Rattle.std.specs.Char.{IsScalar, encode_utf8, len_utf8}
use Rattle.std.specs.Str.{IsUtf8, all_scalars, encode_utf8_all, is_utf8}
use Rattle.std.proofs.lemmas.Bool.{and_parts, cases_Bool, cases_lt}
use Rattle.std.proofs.lemmas.List.{append_assoc, length-append, take-append-drop, take_at}
use Rattle.std.proofs.lemmas.Str.{IsUtf8-encode, IsUtf8-from_is_utf8, is_utf8-from_IsUtf8, len_utf8_bounds, length-encode}
use Rattle.owl_characters.specs.Utf8.{BeginsNoCharacter, Decodes}
use Rattle.owl_characters.proofs.Utf8Laws.{no_bytes}
use Rattle.owl_lexer.proofs.BytesLaws.{decodes_first, decodes_none}

-- a character begins the bytes
record StandsFirst (bytes : List ℕ) : Type 0 where
  character : ℕ
  rest : List ℕ
  scalar : IsScalar character
  is : bytes ≡ encode_utf8 character ++ rest

-- the first bytes are characters
stands : (b n : ℕ) (bytes : List ℕ) → IsUtf8 (b ∷ take n bytes) → StandsFirst (b ∷ bytes)
stands b n bytes u = first u.0 u.1.0 u.1.1
  where
    first : (cs : List ℕ) → all_scalars cs ≡ true → encode_utf8_all cs ≡ b ∷ take n bytes → StandsFirst (b ∷ bytes)
    first [] s e = absurd (cc)
    first (c ∷ cs) s e = record {
      character = c;
      rest = encode_utf8_all cs ++ drop n bytes;
      scalar = (and_parts _ _ s).0;
      is = ap (λ (l : List ℕ). b ∷ l) (sym (take-append-drop n bytes)) ∙ ap (λ (l : List ℕ). l ++ drop n bytes) (sym e) ∙ append_assoc (encode_utf8 c) (encode_utf8_all cs) (drop n bytes);
    }

-- among the fronts of so many bytes at most, one is of characters, or none is
find_front : (b : ℕ) (bytes : List ℕ) (most : ℕ) → StandsFirst (b ∷ bytes) ⊎ ((n : ℕ) → n < most → IsUtf8 (b ∷ take n bytes) → ⊥)
find_front b bytes zero = inr (λ n lt u. absurd (omega arith))
find_front b bytes (suc most) = elim (find_front b bytes most) [
  | inl s ↦ inl s
  | inr below ↦ elim (cases_Bool (is_utf8 (b ∷ take most bytes))) [
    | inl passes ↦ inl (stands b most bytes (IsUtf8-from_is_utf8 (b ∷ take most bytes) passes))
    | inr fails ↦ inr (λ n lt u. at_most n lt u fails below)
  ]
]
  where
    at_most : (n : ℕ) → n < suc most → IsUtf8 (b ∷ take n bytes) → is_utf8 (b ∷ take most bytes) ≡ false → ((k : ℕ) → k < most → IsUtf8 (b ∷ take k bytes) → ⊥) → ⊥
    at_most n lt u fails below = elim (cases_lt n most) [
      | inl less ↦ below n less u
      | inr more ↦
          let same : n ≡ most = omega arith in
          let passes : is_utf8 (b ∷ take most bytes) ≡ true = is_utf8-from_IsUtf8 (b ∷ take most bytes) (subst (λ (k : ℕ). IsUtf8 (b ∷ take k bytes)) same u) in
          let e : true ≡ false = sym passes ∙ fails in
          cc
    ]

-- a character takes four bytes at most
front_of_character : (b : ℕ) (bytes : List ℕ) → ((n : ℕ) → n < 4 → IsUtf8 (b ∷ take n bytes) → ⊥) → BeginsNoCharacter (b ∷ bytes)
front_of_character b bytes none c rest scalar e = at (len_utf8 c) refl
  where
    at : (size : ℕ) → size ≡ len_utf8 c → ⊥
    at zero same = let bounds = len_utf8_bounds c in let low = bounds.0 in absurd (omega arith)
    at (suc n) same =
        let bounds = len_utf8_bounds c in
        let high = bounds.1 in
        let front : take (suc n) (b ∷ bytes) ≡ encode_utf8 c = ap (λ (l : List ℕ). take (suc n) l) e ∙ take_at (encode_utf8 c) rest (suc n) (length-encode c ∙ sym same) in
        none n (omega arith) (subst IsUtf8 (sym front) (IsUtf8-encode c scalar))

first_or_none : (bytes : List ℕ) → BeginsNoCharacter bytes ⊎ StandsFirst bytes
first_or_none [] = inl no_bytes
first_or_none (b ∷ bytes) = elim (find_front b bytes 4) [ inl s ↦ inr s | inr none ↦ inl (front_of_character b bytes none) ]

pub record IsDecoded (bytes : List ℕ) : Type 0 where
  pub characters : List ℕ
  pub tail : List ℕ
  pub decodes : Decodes bytes characters tail

decode_within : (n : ℕ) (bytes : List ℕ) → length bytes ≤ n → IsDecoded bytes
decode_within n [] le = record { characters = []; tail = []; decodes = decodes_none [] no_bytes }
decode_within zero (b ∷ bytes) le = absurd (omega arith)
decode_within (suc n) (b ∷ bytes) le = elim (first_or_none (b ∷ bytes)) [
  | inl none ↦ record { characters = []; tail = b ∷ bytes; decodes = decodes_none (b ∷ bytes) none }
  | inr s ↦
      let size = length-encode s.character in
      let bounds = len_utf8_bounds s.character in
      let low = bounds.0 in
      let sizes : length (b ∷ bytes) ≡ length (encode_utf8 s.character) + length s.rest = ap (λ (l : List ℕ). length l) s.is ∙ length-append (encode_utf8 s.character) s.rest in
      let others = decode_within n s.rest (omega arith) in
      record {
        characters = s.character ∷ others.characters;
        tail = others.tail;
        decodes = subst (λ (l : List ℕ). Decodes l (s.character ∷ others.characters) others.tail) (sym s.is) (decodes_first s.character s.rest others.characters others.tail s.scalar others.decodes);
      }
]

pub decode : (bytes : List ℕ) → IsDecoded bytes
decode bytes = decode_within (length bytes) bytes (omega arith)
