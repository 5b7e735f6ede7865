-- Each escape is undone, and nothing else.
use Rattle.std.proofs.Common.{◌≡◌, ℕ, zero, suc, ◌==◌, Bool, false, if◌then◌else◌, Option, Some, List, [], ◌∷◌, ◌++◌, length, take, drop, refl, sym, ap, ◌∙◌, subst}
use Rattle.std.proofs.Math.Seq.{take-append_seam, drop-append_seam}
use Rattle.std.specs.Prelude.{flat_map}
use Rattle.std.specs.List.{AllByRecursion}
use Rattle.ttl_tokens.specs.EscapedText.{IsPiece, Piece, characters_of, piece_character, piece_spelling}
use Rattle.ttl_tokens.specs.EscapedText.Piece.{plain, echar, uchar, long_uchar}
use Rattle.ttl_tokens.specs.Escapes.{character_at, escape_length, escaped, hex_number, in_front, string_escape, unescaped, unescaped_behind}

pub unescaped_behind-drop : (passed : ℕ) (cs : List ℕ) → unescaped_behind passed cs ≡ unescaped (drop passed cs)
unescaped_behind-drop zero cs = refl
unescaped_behind-drop (suc passed) [] = refl
unescaped_behind-drop (suc passed) (c ∷ cs) = unescaped_behind-drop passed cs

-- a piece in front

at_plain : (c : ℕ) (cs : List ℕ) → (c == 0x5C) ≡ false → unescaped (c ∷ cs) ≡ in_front (Some c) (unescaped cs)
at_plain c cs h =
    let P : Bool → Type 0 = λ b. in_front (if b then escaped cs else Some c) (unescaped_behind (if b then escape_length cs else 0) cs) ≡ in_front (Some c) (unescaped cs) in
    subst P (sym h) refl

at_echar : (c : ℕ) (cs : List ℕ) → (c == 0x75) ≡ false → (c == 0x55) ≡ false → unescaped (0x5C ∷ c ∷ cs) ≡ in_front (Some (string_escape c)) (unescaped cs)
at_echar c cs h k = rw h (rw k refl)

-- as many digits as behind the letter
at_digits : (digits cs : List ℕ) (count : ℕ) → length digits ≡ count → in_front (character_at (hex_number (take count (digits ++ cs)))) (unescaped_behind count (digits ++ cs)) ≡ in_front (character_at (hex_number digits)) (unescaped cs)
at_digits digits cs count h =
    let front = ap (λ (ds : List ℕ). in_front (character_at (hex_number ds)) (unescaped_behind (length digits) (digits ++ cs))) (take-append_seam digits cs) in
    let behind = unescaped_behind-drop (length digits) (digits ++ cs) ∙ ap (λ (l : List ℕ). unescaped l) (drop-append_seam digits cs) in
    let P : ℕ → Type 0 = λ n. in_front (character_at (hex_number (take n (digits ++ cs)))) (unescaped_behind n (digits ++ cs)) ≡ in_front (character_at (hex_number digits)) (unescaped cs) in
    subst P h (front ∙ ap (λ (o : Option (List ℕ)). in_front (character_at (hex_number digits)) o) behind)

pub at_piece : (piece : Piece) (cs : List ℕ) → IsPiece piece → unescaped (piece_spelling piece ++ cs) ≡ in_front (piece_character piece) (unescaped cs)
at_piece (plain c) cs h = at_plain c cs h
at_piece (echar c) cs h = at_echar c cs h.0 h.1
at_piece (uchar digits) cs h = at_digits digits cs 4 h
at_piece (long_uchar digits) cs h = at_digits digits cs 8 h

pub unescaped-pieces : (pieces : List Piece) → AllByRecursion IsPiece pieces → unescaped (flat_map piece_spelling pieces) ≡ characters_of pieces
unescaped-pieces [] h = refl
unescaped-pieces (piece ∷ others) h =
    at_piece piece (flat_map piece_spelling others) h.0 ∙ ap (λ (o : Option (List ℕ)). in_front (piece_character piece) o) (unescaped-pieces others h.1)
