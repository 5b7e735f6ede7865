-- Which texts are labels.
use Rattle.std.proofs.Common.{◌≡◌, ℕ, ◌-◌, Bool, true, false, List, [], ◌∷◌, ◌++◌, length, take, drop, None, refl, sym, ap, ◌∙◌, inl, inr, lit<, arith}
use Rattle.std.specs.Prelude.{codes, ◌==◌}
use Rattle.std.specs.Bool.{MatchBool}
use Rattle.std.specs.Char.{encode_utf8}
use Rattle.std.specs.Str.{IsUtf8, chars, encode_utf8_all}
use Rattle.std.specs.Str.Pattern.{FindsCharSuffix, HasSuffixMatch}
use Rattle.std.proofs.lemmas.Bool.{eqb-true, or_cases, false≢true, false_from_ne_true}
use Rattle.std.proofs.lemmas.List.{append-nil, drop_all}
use Rattle.std.proofs.lemmas.Str.{chars-nil, chars_past_char, encodes-append, encodes-chars}
use Rattle.owl_characters.specs.Iri.{is_among}
use Rattle.owl_characters.specs.Names.{ends_in_dot, begins_with}
use Rattle.rdf_terms.proofs.Characters.{cut_at}

dot_behind : (front : List ℕ) → ends_in_dot (front ++ codes ".") ≡ true
dot_behind [] = refl
dot_behind (c ∷ []) = refl
dot_behind (c ∷ d ∷ cs) = dot_behind (d ∷ cs)

is_dot : (c : ℕ) → is_among (codes ".") c ≡ true → c ≡ 46
is_dot c h = elim (or_cases (46 == c) false h) [ inl e ↦ sym (eqb-true 46 c e) | inr e ↦ absurd (false≢true e) ]

before_dot : (cs : List ℕ) → ends_in_dot cs ≡ true → (front : List ℕ) × (cs ≡ front ++ codes ".")
before_dot [] h = absurd (false≢true h)
before_dot (c ∷ []) h = ([], ap (λ x. x ∷ []) (is_dot c h))
before_dot (c ∷ d ∷ cs) h =
    let rest = before_dot (d ∷ cs) h in
    (c ∷ rest.0, ap (λ x. c ∷ x) rest.1)

-- what `ends_with` tells of the characters
pub ends_is : (r : Bool) (bs : List ℕ) → IsUtf8 bs → MatchBool r (HasSuffixMatch (FindsCharSuffix 46) bs) (FindsCharSuffix 46 bs None) → r ≡ ends_in_dot (chars bs)
ends_is true bs u h =
    let cut = cut_at 46 bs (length bs - h.0) (length bs) u h.1.1 (lit< tt) in
    let end : chars (drop (length bs) bs) ≡ [] = ap chars (drop_all (length bs) bs (omega arith)) ∙ chars-nil in
    sym (ap ends_in_dot (cut ∙ ap (λ x. chars (take (length bs - h.0) bs) ++ 46 ∷ x) end) ∙ dot_behind (chars (take (length bs - h.0) bs)))
ends_is false bs u h =
    sym (false_from_ne_true (ends_in_dot (chars bs)) (λ t.
    let front = before_dot (chars bs) t in
    h (encode_utf8_all front.0) (sym (encodes-chars bs u) ∙ ap encode_utf8_all front.1 ∙ encodes-append front.0 (codes ".") ∙ ap (λ x. encode_utf8_all front.0 ++ x) (append-nil (encode_utf8 46)))))

-- the first character of a text
pub first_is : (test : ℕ → Bool) (bs rest front : List ℕ) (c : ℕ) → IsUtf8 bs → front ≡ bs → front ≡ encode_utf8 c ++ rest → test c ≡ begins_with test (chars bs)
first_is test bs rest front c u same e = sym (ap (begins_with test) (chars_past_char bs rest c u (sym same ∙ e)))
