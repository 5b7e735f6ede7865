-- Texts of ASCII, which are their own characters and their own bytes.
use Rattle.std.proofs.Common.{◌≡◌, ℕ, zero, suc, true, List, [], ◌∷◌, ◌++◌, refl, sym, ap, ◌∙◌, drop, length, nat_eq, arith}
use Rattle.std.specs.List.{list_all, starts_with}
use Rattle.std.specs.Str.{IsAscii, all_scalars, bytes_eq, chars, encode_utf8_all}
use Rattle.std.proofs.lemmas.Bool.{and_parts, ltb-true}
use Rattle.std.proofs.lemmas.Bool.Decides.{Decides-eqb, same_from_decides}
use Rattle.std.proofs.lemmas.Slice.Eq.{starts_is}
use Rattle.std.proofs.lemmas.Str.{IsUtf8-from_ascii, chars-IsAscii, chars-append, chars-encodes, encodes-IsAscii, encodes-append, encodes_same}
use Rattle.owl_characters.specs.Iri.{is_ascii}
use Rattle.owl_characters.specs.Order.{text_eq}
use Rattle.owl_characters.specs.OrderLaws.{same_bytes}

pub ascii_text : (word : List ℕ) → list_all is_ascii word ≡ true → IsAscii word
ascii_text [] h i = omega arith
ascii_text (c ∷ cs) h zero = ltb-true c 128 (and_parts (is_ascii c) (list_all is_ascii cs) h).0
ascii_text (c ∷ cs) h (suc i) = ascii_text cs (and_parts (is_ascii c) (list_all is_ascii cs) h).1 i

pub ascii_chars : (word : List ℕ) → list_all is_ascii word ≡ true → chars word ≡ word
ascii_chars word h = chars-IsAscii word (ascii_text word h)

pub ascii_bytes : (word : List ℕ) → list_all is_ascii word ≡ true → encode_utf8_all word ≡ word
ascii_bytes word h = encodes-IsAscii word (ascii_text word h)

-- characters are a word where their bytes are
pub from_bytes : (word cs : List ℕ) → list_all is_ascii word ≡ true → word ≡ encode_utf8_all cs → cs ≡ word
from_bytes word cs h e = encodes_same cs word (sym e ∙ sym (ascii_bytes word h))

pub from_characters : (word cs : List ℕ) → list_all is_ascii word ≡ true → cs ≡ word → word ≡ encode_utf8_all cs
from_characters word cs h e = sym (ascii_bytes word h) ∙ ap encode_utf8_all (sym e)

-- a test of the bytes of a text is one of its characters
pub word_is : (word cs : List ℕ) → list_all is_ascii word ≡ true → bytes_eq word (encode_utf8_all cs) ≡ text_eq word cs
word_is word cs h = ap (λ x. bytes_eq x (encode_utf8_all cs)) (sym (ascii_bytes word h)) ∙ same_bytes word cs

-- a text begins with a word where its characters do
pub front_is : (front cs : List ℕ) → all_scalars cs ≡ true → list_all is_ascii front ≡ true → starts_with nat_eq (encode_utf8_all cs) front ≡ starts_with nat_eq cs front
front_is front cs s h =
    let a : IsAscii front = ascii_text front h in
    let bytes = starts_is Decides-eqb (encode_utf8_all cs) front (starts_with nat_eq (encode_utf8_all cs) front) refl in
    let characters = starts_is Decides-eqb cs front (starts_with nat_eq cs front) refl in
    same_from_decides _ _ (
      (λ t.
          let rest = drop (length front) (encode_utf8_all cs) in
          characters.1 (chars rest)
          (sym (chars-encodes cs s) ∙ ap chars (bytes.0 t) ∙ chars-append front rest (IsUtf8-from_ascii front a) ∙ ap (λ x. x ++ chars rest) (chars-IsAscii front a))),
      (λ t.
          let rest = drop (length front) cs in
          bytes.1 (encode_utf8_all rest)
          (ap encode_utf8_all (characters.0 t) ∙ encodes-append front rest ∙ ap (λ x. x ++ encode_utf8_all rest) (encodes-IsAscii front a))),
    )
    (λ t. t, λ t. t)
