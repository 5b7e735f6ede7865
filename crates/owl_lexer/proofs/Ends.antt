-- What is in hand is the end of what was fed.
use Rattle.std.proofs.Common.{◌≡◌, ℕ, true, false, List, [], ◌∷◌, ◌++◌, take, drop, sym, ap, ◌∙◌, subst}
use Rattle.std.specs.Char.{encode_utf8}
use Rattle.std.specs.Str.{encode_utf8_all}
use Rattle.std.proofs.lemmas.List.{append_assoc, append-nil, take-append-drop}
use Rattle.std.proofs.lemmas.Str.{encodes-append}
use Rattle.owl_lexer.specs.BytesGiving.{BegunBytes}
use Rattle.owl_lexer.specs.Hands.{EndsIn}
use Rattle.owl_lexer.specs.Lexing.{Begun, EndWith, KeepsEnd}
use Rattle.owl_lexer.specs.Sources.{bytes_of}

-- ---- characters

-- what stands behind the front is the end of what was held
pub ends_behind : (n : ℕ) (held mid cs new : List ℕ) (c : ℕ) → mid ≡ [] → cs ≡ drop n held ++ c ∷ [] → EndsIn (mid ++ cs) new → EndsIn (held ++ c ∷ []) new
ends_behind n held mid cs new c none is e = record {
  front = take n held ++ e.front;
  parts =
      ap (λ (l : List ℕ). l ++ c ∷ []) (sym (take-append-drop n held)) ∙ append_assoc (take n held) (drop n held) (c ∷ [])
      ∙ ap (λ (l : List ℕ). take n held ++ l) (sym is ∙ ap (λ (l : List ℕ). l ++ cs) (sym none) ∙ e.parts) ∙ sym (append_assoc (take n held) e.front new);
}

-- ---- bytes

pub keeps_both : (old mid new : Begun) (bs ds : List ℕ) → KeepsEnd old bs mid → KeepsEnd mid ds new → KeepsEnd old (bs ++ ds) new
keeps_both old mid new bs ds h k fed e = subst (λ (l : List ℕ). EndWith l new) (append_assoc fed bs ds) (k (fed ++ bs) (h fed e))

-- a byte of a character that is begun
pub keeps_unfinished : (old : BegunBytes) (b : ℕ) → KeepsEnd (bytes_of old) (b ∷ []) (bytes_of (record old { bytes = old.bytes ++ b ∷ [] }))
keeps_unfinished old b fed e =
    let held = encode_utf8_all old.held in
    record {
      front = e.front;
      parts =
          ap (λ (l : List ℕ). l ++ b ∷ []) e.parts ∙ append_assoc e.front (held ++ old.bytes) (b ∷ [])
          ∙ ap (λ (l : List ℕ). e.front ++ l) (append_assoc held old.bytes (b ∷ []));
      fresh = e.fresh;
    }

-- a byte that makes a character whole
pub keeps_whole : (old new : BegunBytes) (b c : ℕ) → encode_utf8 c ≡ old.bytes ++ b ∷ [] → new.bytes ≡ [] → new.fresh ≡ false → EndsIn (old.held ++ c ∷ []) new.held → KeepsEnd (bytes_of old) (b ∷ []) (bytes_of new)
keeps_whole old new b c is none fresh h fed e =
    let held = encode_utf8_all old.held in
    let left = encode_utf8_all new.held in
    let given = encode_utf8_all h.front in
    let same : held ++ (old.bytes ++ b ∷ []) ≡ given ++ (left ++ new.bytes) =
    ap (λ (l : List ℕ). held ++ l) (sym is ∙ sym (append-nil (encode_utf8 c))) ∙ sym (encodes-append old.held (c ∷ []))
    ∙ ap encode_utf8_all h.parts ∙ encodes-append h.front new.held
    ∙ ap (λ (l : List ℕ). given ++ l) (sym (append-nil left) ∙ ap (λ (l : List ℕ). left ++ l) (sym none)) in
    record {
      front = e.front ++ given;
      parts =
          ap (λ (l : List ℕ). l ++ b ∷ []) e.parts ∙ append_assoc e.front (held ++ old.bytes) (b ∷ [])
          ∙ ap (λ (l : List ℕ). e.front ++ l) (append_assoc held old.bytes (b ∷ []) ∙ same) ∙ sym (append_assoc e.front given (left ++ new.bytes));
      fresh = λ f. let no : true ≡ false = sym f ∙ fresh in cc;
    }

-- nothing is in hand any more
pub keeps_none : (old new : Begun) (piece : List ℕ) → new.held ≡ [] → new.fresh ≡ false → KeepsEnd old piece new
keeps_none old new piece none fresh fed e = record {
  front = fed ++ piece;
  parts = sym (append-nil (fed ++ piece)) ∙ ap (λ (l : List ℕ). (fed ++ piece) ++ l) (sym none);
  fresh = λ f. let no : true ≡ false = sym f ∙ fresh in cc;
}
