-- Where words stand, they stand among more, and in the bytes of the characters.
use Rattle.std.proofs.Common.{◌≡◌, inl, inr, ℕ, List, [], ◌∷◌, ◌++◌, map, sym, ap, ◌∙◌}
use Rattle.std.specs.Str.{encode_utf8_all}
use Rattle.std.proofs.lemmas.List.{append_assoc}
use Rattle.std.proofs.lemmas.Str.{encodes-append}
use Rattle.owl_lexer.specs.Words.{HoldsOne}

pub holds_within : (words : List (List ℕ)) (cs front mid rest : List ℕ) → cs ≡ front ++ (mid ++ rest) → HoldsOne words mid → HoldsOne words cs
holds_within [] cs front mid rest e h = h
holds_within (word ∷ words) cs front mid rest e (inl h) = inl (record {
  front = front ++ h.front;
  rest = h.rest ++ rest;
  parts =
      e ∙ ap (λ (l : List ℕ). front ++ (l ++ rest)) h.parts
      ∙ ap (λ (l : List ℕ). front ++ l) (append_assoc h.front (word ++ h.rest) rest ∙ ap (λ (l : List ℕ). h.front ++ l) (append_assoc word h.rest rest))
      ∙ sym (append_assoc front h.front (word ++ (h.rest ++ rest)));
})
holds_within (word ∷ words) cs front mid rest e (inr h) = inr (holds_within words cs front mid rest e h)

pub holds_encoded : (words : List (List ℕ)) (cs : List ℕ) → HoldsOne words cs → HoldsOne (map encode_utf8_all words) (encode_utf8_all cs)
holds_encoded [] cs h = h
holds_encoded (word ∷ words) cs (inl h) = inl (record {
  front = encode_utf8_all h.front;
  rest = encode_utf8_all h.rest;
  parts =
      ap encode_utf8_all h.parts ∙ encodes-append h.front (word ++ h.rest)
      ∙ ap (λ (l : List ℕ). encode_utf8_all h.front ++ l) (encodes-append word h.rest);
})
holds_encoded (word ∷ words) cs (inr h) = inr (holds_encoded words cs h)
