-- Characters of a text that are written one by one.
use Rattle.std.proofs.Common.{◌≡◌, ℕ, List, [], ◌∷◌, ◌++◌, length, refl, sym, ap, ◌∙◌, arith, subst}
use Rattle.std.specs.Char.{encode_utf8}
use Rattle.std.specs.List.{flat_map}
use Rattle.std.specs.Str.{IsUtf8, chars, encode_utf8_all}
use Rattle.std.proofs.lemmas.List.{append_assoc, append-nil}
use Rattle.std.proofs.lemmas.Str.{cons_from_encodes, encodes-chars, length-le-encodes}
use Rattle.owl_writing.specs.Limits.{IsTooLong}
use Rattle.owl_writing.proofs.DraftLaws.{longer}

-- what was written, and the bytes of the characters that are left
pub record IsLeft (line : ℕ → List ℕ) (start all now bytes : List ℕ) : Type 0 where
  pub left : List ℕ
  pub encodes : encode_utf8_all left ≡ bytes
  pub whole : now ++ flat_map line left ≡ start ++ flat_map line all

pub left_at_first : (line : ℕ → List ℕ) (start text bytes : List ℕ) → IsUtf8 text → bytes ≡ text → IsLeft line start (chars text) start bytes
left_at_first line start text bytes u e = record { left = chars text; encodes = encodes-chars text u ∙ sym e; whole = refl }

pub left_after : (line : ℕ → List ℕ) (start all now bytes rest after : List ℕ) (c : ℕ) → IsLeft line start all now bytes → bytes ≡ encode_utf8 c ++ rest → after ≡ now ++ line c → IsLeft line start all after rest
left_after line start all now bytes rest after c h e f =
    let p = cons_from_encodes h.left rest c (h.encodes ∙ e) in
    record {
      left = p.0;
      encodes = p.2;
      whole = ap (λ (x : List ℕ). x ++ flat_map line p.0) f ∙ append_assoc now (line c) (flat_map line p.0) ∙ ap (λ (x : List ℕ). now ++ flat_map line x) (sym p.1) ∙ h.whole;
    }

pub left_at_last : (line : ℕ → List ℕ) (start all now bytes : List ℕ) → IsLeft line start all now bytes → length bytes ≡ 0 → now ≡ start ++ flat_map line all
left_at_last line start all now bytes h e = at_last h.left h.encodes h.whole where
  at_last : (left : List ℕ) → encode_utf8_all left ≡ bytes → now ++ flat_map line left ≡ start ++ flat_map line all → now ≡ start ++ flat_map line all
  at_last [] f g = sym (append-nil now) ∙ g
  at_last (c ∷ cs) f g = absurd (let small = length-le-encodes (c ∷ cs) in omega (arith, ap length f))

-- a front that is too long is one of a text that is
pub left_too_long : (line : ℕ → List ℕ) (start all now bytes rest : List ℕ) (c : ℕ) → IsLeft line start all now bytes → bytes ≡ encode_utf8 c ++ rest → IsTooLong (now ++ line c) → IsTooLong (start ++ flat_map line all)
left_too_long line start all now bytes rest c h e long =
    let next = left_after line start all now bytes rest (now ++ line c) c h e refl in
    subst IsTooLong next.whole (longer (now ++ line c) (flat_map line next.left) long)
