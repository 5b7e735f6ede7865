-- The names of the grammar's values are those that the three syntaxes share.
use Rattle.std.proofs.Common.{◌≡◌, ℕ, ◌+◌, Bool, false, cond, not, List, [], ◌∷◌, ◌++◌, length, take, drop, codes, refl, sym, ap, ◌∙◌, subst, one-add}
use Rattle.std.proofs.Math.Seq.{take-append_seam, drop-append-add}
use Rattle.std.specs.Prelude.{filter, flat_map}
use Rattle.std.specs.List.{AllByRecursion, position_or_len}
use Rattle.std.specs.Char.{is_ascii_hexdigit}
use Rattle.owl_characters.specs.Names.{AreLocalPieces, IsPieceOf, IsPrefixName, Piece, SpellsLocal, is_base, is_escapable, is_inner, is_local_inner, is_local_start, piece_spelling, piece_text}
use Rattle.owl_characters.specs.Names.Piece.{plain, percent, escaped}
use Rattle.owl_characters.specs.Iri.{AllAre}
use Rattle.owl_tokens.specs.CharacterLaws.{differs}
use Rattle.ttl_tokens.specs.TurtleValues.{is_backslash, is_colon, local_text, prefix_text}

-- prefixes

colon_behind : (prefix written : List ℕ) → AllByRecursion (λ c. is_colon c ≡ false) prefix → position_or_len is_colon (prefix ++ (0x3A ∷ written)) ≡ length prefix
colon_behind [] written h = refl
colon_behind (c ∷ prefix) written h =
    let others = position_or_len is_colon (prefix ++ (0x3A ∷ written)) in
    let first : position_or_len is_colon (c ∷ (prefix ++ (0x3A ∷ written))) ≡ 1 + others = subst (λ (b : Bool). cond (not b) (1 + others) 0 ≡ 1 + others) (sym h.0) refl in
    first ∙ ap (λ (n : ℕ). 1 + n) (colon_behind prefix written h.1) ∙ one-add (length prefix)

no_colons : (cs : List ℕ) → AllAre is_inner cs → AllByRecursion (λ c. is_colon c ≡ false) cs
no_colons [] h = tt
no_colons (c ∷ cs) h = (differs is_inner c 0x3A h.0 refl, no_colons cs h.1)

prefix_has_no_colons : (prefix : List ℕ) → IsPrefixName prefix → AllByRecursion (λ c. is_colon c ≡ false) prefix
prefix_has_no_colons [] h = tt
prefix_has_no_colons (c ∷ cs) h = (differs is_base c 0x3A h.0 refl, no_colons cs h.1)

pub prefix_is_read : (prefix written : List ℕ) → IsPrefixName prefix → prefix_text (prefix ++ (codes ":" ++ written)) ≡ prefix
prefix_is_read prefix written h =
    ap (λ (n : ℕ). take n (prefix ++ (0x3A ∷ written))) (colon_behind prefix written (prefix_has_no_colons prefix h)) ∙ take-append_seam prefix (0x3A ∷ written)

-- local parts

abbrev kept : List ℕ → List ℕ
kept cs = filter (λ c. not (is_backslash c)) cs

kept_one : (c : ℕ) (rest : List ℕ) → is_backslash c ≡ false → kept (c ∷ rest) ≡ c ∷ kept rest
kept_one c rest h = subst (λ (b : Bool). cond (not b) (c ∷ kept rest) (kept rest) ≡ c ∷ kept rest) (sym h) refl

kept_piece : (test : ℕ → Bool) (piece : Piece) (rest : List ℕ) → test 0x5C ≡ false → IsPieceOf test piece → kept (piece_spelling piece ++ rest) ≡ piece_text piece ++ kept rest
kept_piece test (plain c) rest e h = kept_one c rest (differs test c 0x5C h e)
kept_piece test (percent a b) rest e h =
    ap (λ (l : List ℕ). 0x25 ∷ l) (kept_one a (b ∷ rest) (differs is_ascii_hexdigit a 0x5C h.0 refl) ∙ ap (λ (l : List ℕ). a ∷ l) (kept_one b rest (differs is_ascii_hexdigit b 0x5C h.1 refl)))
kept_piece test (escaped c) rest e h = kept_one c rest (differs is_escapable c 0x5C h refl)

kept_pieces : (pieces : List Piece) → AllByRecursion (IsPieceOf is_local_inner) pieces → kept (flat_map piece_spelling pieces) ≡ flat_map piece_text pieces
kept_pieces [] h = refl
kept_pieces (piece ∷ others) h =
    kept_piece is_local_inner piece (flat_map piece_spelling others) refl h.0 ∙ ap (λ (l : List ℕ). piece_text piece ++ l) (kept_pieces others h.1)

kept_local : (pieces : List Piece) → AreLocalPieces pieces → kept (flat_map piece_spelling pieces) ≡ flat_map piece_text pieces
kept_local [] h = refl
kept_local (piece ∷ others) h =
    kept_piece is_local_start piece (flat_map piece_spelling others) refl h.0 ∙ ap (λ (l : List ℕ). piece_text piece ++ l) (kept_pieces others h.1)

pub local_is_read : (prefix written local : List ℕ) → IsPrefixName prefix → SpellsLocal written local → local_text (prefix ++ (codes ":" ++ written)) ≡ local
local_is_read prefix written local h s =
    ap (λ (n : ℕ). kept (drop (n + 1) (prefix ++ (0x3A ∷ written)))) (colon_behind prefix written (prefix_has_no_colons prefix h))
    ∙ ap (λ (l : List ℕ). kept l) (drop-append-add prefix (0x3A ∷ written) 1)
    ∙ ap (λ (l : List ℕ). kept l) s.spelled ∙ kept_local s.pieces s.pieces_fit ∙ sym s.stands_for
