-- What leads from bytes to characters and back.
use Rattle.std.proofs.Common.{Bool, cond, Result, Ok, Err, is_ok, OnOk, ◌≡◌, ℕ, List, [], ◌∷◌, ◌++◌, true, sym, ap, ◌∙◌}
use Rattle.std.specs.Char.{IsScalar, encode_utf8}
use Rattle.std.proofs.lemmas.Slice.Eq.{bytes_eq-Decides}
use Rattle.std.specs.Str.{bytes_eq, chars, encode_utf8_all, all_scalars, IsUtf8}
use Rattle.std.proofs.lemmas.Str.{encodes-chars, scalars-chars, chars-append, chars-encodes}
use Rattle.std.proofs.lemmas.List.{append-nil}

-- the bytes of a text are those of its characters
pub bytes_of : (s cs : List ℕ) → IsUtf8 s → chars s ≡ cs → s ≡ encode_utf8_all cs
bytes_of s cs u e = sym (encodes-chars s u) ∙ ap encode_utf8_all e

pub scalars_of : (s cs : List ℕ) → IsUtf8 s → chars s ≡ cs → all_scalars cs ≡ true
scalars_of s cs u e = ap all_scalars (sym e) ∙ scalars-chars s u

pub chars-push : (s : List ℕ) (c : ℕ) → IsUtf8 s → IsScalar c → chars (s ++ encode_utf8 c) ≡ chars s ++ c ∷ []
chars-push s c u h =
    chars-append s (encode_utf8 c) u ∙ ap (λ x. chars s ++ x) (sym (ap chars (append-nil (encode_utf8 c))) ∙ chars-encodes (c ∷ []) (Prim.search (h)))

-- what a push leaves, where it succeeds
pub push_ok : {T E : Type 0} (r : Result T E) (s t cs : List ℕ) (c : ℕ) → IsUtf8 s → IsScalar c → chars s ≡ cs → t ≡ cond (is_ok r) (s ++ encode_utf8 c) s → OnOk r (chars t ≡ cs ++ c ∷ [])
push_ok (Ok x) s t cs c u h e p = ap chars p ∙ chars-push s c u h ∙ ap (λ x. x ++ c ∷ []) e
push_ok (Err x) s t cs c u h e p = tt

-- what is left when a text was put at the end
pub pushed : (s more t cs : List ℕ) → IsUtf8 s → chars s ≡ cs → t ≡ s ++ more → chars t ≡ cs ++ chars more
pushed s more t cs u h e = ap chars e ∙ chars-append s more u ∙ ap (λ x. x ++ chars more) h

-- a test of the bytes of two texts is one of their characters
pub same_chars : (b : Bool) (s w cs : List ℕ) → b ≡ bytes_eq s w → IsUtf8 s → IsUtf8 w → chars s ≡ cs → (b ≡ true → cs ≡ chars w) × (cs ≡ chars w → b ≡ true)
same_chars b s w cs e u v h =
    let d = bytes_eq-Decides s w in (
      λ t. sym h ∙ ap chars (d.0 (sym e ∙ t)),
      λ k. e ∙ d.1 (sym (encodes-chars s u) ∙ ap encode_utf8_all (h ∙ k) ∙ encodes-chars w v),
    )
