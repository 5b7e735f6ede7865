-- What tests of a text tell of its characters.
use Rattle.std.proofs.Common.{◌≡◌, ℕ, ◌<◌, ◌+◌, Bool, true, false, not, List, [], ◌∷◌, ◌++◌, refl, sym, ap, ◌∙◌, subst, take, drop, length, length-drop, take-append-drop, arith}
use Rattle.std.specs.Prelude.{◌==◌}
use Rattle.std.specs.Char.{len_utf8}
use Rattle.std.specs.Str.{IsUtf8, NoCharPasses, IsCharBoundary, NonePass, chars, encode_utf8_all}
use Rattle.std.specs.Str.Pattern.{HasCharAt}
use Rattle.std.proofs.lemmas.Bool.{both_ways, eqb-true, not_from_false}
use Rattle.std.proofs.lemmas.Str.{chars-append, chars-nil, chars_past_char, encodes-chars, encodes_same, IsCharBoundary-before_ascii, IsUtf8-take, IsUtf8-drop}
use Rattle.std.proofs.lemmas.Str.Pattern.{drop_at_char}
use Rattle.owl_characters.specs.Iri.{AllAre}

-- no character passes the test
abbrev pub NoneAre : (ℕ → Bool) → List ℕ → Type 0
NoneAre test cs = AllAre (λ c. not (test c)) cs

none_pass : (test : ℕ → Bool) (cs : List ℕ) → NonePass test cs → NoneAre test cs
none_pass test [] h = tt
none_pass test (c ∷ cs) h = (not_from_false (test c) h.0, none_pass test cs h.1)

pub none_of : (test : ℕ → Bool) (bs : List ℕ) → IsUtf8 bs → NoCharPasses test bs → NoneAre test (chars bs)
none_of test bs u h =
    let same : h.0 ≡ chars bs = encodes_same h.0 (chars bs) (h.1 ∙ sym (encodes-chars bs u)) in
    subst (NoneAre test) same (none_pass test h.0 h.2)

-- a text may be cut before an ASCII character
boundary_at : (c : ℕ) (bs : List ℕ) (i j : ℕ) → HasCharAt c bs i j → c < 128 → IsCharBoundary bs i
boundary_at c bs i j h small =
    let here : drop i bs ≡ c ∷ drop j bs = drop_at_char c bs i j h small in
    let within : i < length bs = omega (arith, ap (λ (x : List ℕ). length x) here, length-drop i bs) in
    IsCharBoundary-before_ascii bs i within (subst (λ n. n < 128) (sym (h.byte small)) small)

pub front_utf8 : (c : ℕ) (bs : List ℕ) (i j : ℕ) → IsUtf8 bs → HasCharAt c bs i j → c < 128 → IsUtf8 (take i bs)
front_utf8 c bs i j u h small = IsUtf8-take bs i u (boundary_at c bs i j h small)

pub back_utf8 : (c : ℕ) (bs : List ℕ) (i j : ℕ) → IsUtf8 bs → HasCharAt c bs i j → IsUtf8 (drop j bs)
back_utf8 c bs i j u h = subst (λ n. IsUtf8 (drop n bs)) (sym h.ends) (IsUtf8-drop bs (i + len_utf8 c) u h.after)

-- a text that is cut at an ASCII character has its characters cut there
pub cut_at : (c : ℕ) (bs : List ℕ) (i j : ℕ) → IsUtf8 bs → HasCharAt c bs i j → c < 128 → chars bs ≡ chars (take i bs) ++ c ∷ chars (drop j bs)
cut_at c bs i j u h small =
    sym (ap chars (take-append-drop i bs))
    ∙ chars-append (take i bs) (drop i bs) (front_utf8 c bs i j u h small)
    ∙ ap (λ x. chars (take i bs) ++ x) (chars_past_char (drop i bs) (drop j bs) c (IsUtf8-drop bs i u (boundary_at c bs i j h small)) h.split)

-- the test of an empty text
some_by : (bs cs : List ℕ) → encode_utf8_all cs ≡ bs → (length bs == 0) ≡ false → 0 < length cs
some_by bs [] e t = absurd (both_ways (length bs == 0) t (sym (ap (λ (x : List ℕ). length x == 0) e)))
some_by bs (c ∷ cs) e t = omega arith

pub some_chars : (b : Bool) (bs : List ℕ) → IsUtf8 bs → b ≡ (length bs == 0) → b ≡ false → 0 < length (chars bs)
some_chars b bs u e t = some_by bs (chars bs) (encodes-chars bs u) (sym e ∙ t)

empty_by : (bs : List ℕ) → length bs ≡ 0 → bs ≡ []
empty_by [] e = refl
empty_by (c ∷ bs) e = absurd (omega arith)

pub empty_chars : (b : Bool) (bs : List ℕ) → b ≡ (length bs == 0) → b ≡ true → chars bs ≡ []
empty_chars b bs e t = ap chars (empty_by bs (eqb-true (length bs) 0 (sym e ∙ t))) ∙ chars-nil
