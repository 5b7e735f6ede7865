-- What tests of a text tell of its characters.
use Rattle.std.proofs.Common.{◌≡◌, ℕ, ◌<◌, ◌+◌, ◌-◌, Option, Bool, true, false, ◌≤◌, List, [], None, ◌∷◌, ◌++◌, refl, sym, ap, ◌∙◌, subst, take, drop, length, length-drop, take-append-drop, arith, Some}
use Rattle.std.specs.Prelude.{◌==◌, IfSome}
use Rattle.std.specs.Option.{MatchOption}
use Rattle.std.specs.Bool.{MatchBool}
use Rattle.std.specs.Char.{encode_utf8, len_utf8}
use Rattle.std.specs.List.{list_all}
use Rattle.std.specs.Str.{IsUtf8, NoCharPasses, IsCharBoundary, NonePass, bytes_eq, chars, encode_utf8_all}
use Rattle.std.specs.Str.Pattern.{FindsChar, FindsCharPrefix, FindsTextPrefix, FindsTextSuffix, HasCharAt, HasPrefixMatch, MatchBeginsAt, RFindsChar, StripsPrefix, StripsSuffix}
use denote.Ref.{Bor}
use Rattle.std.proofs.lemmas.Bool.{eq-eqb, ne_eqb, not_from_false}
use Rattle.std.proofs.lemmas.List.{take_more}
use Rattle.std.proofs.lemmas.Str.{chars-append, chars-IsAscii, chars_past_char, encode_ascii, encodes-chars, encodes_same, length-le-encodes, IsCharBoundary-before_ascii, IsUtf8-take, IsUtf8-drop}
use Rattle.std.proofs.lemmas.Str.Ascii.{IsAscii-cons, IsAscii-nil}
use Rattle.std.proofs.lemmas.Str.Pattern.{IsSplitOnceResult, drop_at_char}
use Rattle.owl_characters.specs.Iri.{is_ascii}
use Rattle.owl_characters.proofs.AsciiLaws.{ascii_bytes}
use Rattle.owl_characters.specs.Order.{text_eq}
use Rattle.owl_characters.specs.OrderLaws.{same_bytes}
use Rattle.owl_characters.specs.Names.{begins_with}
use Rattle.iri_references.specs.References.{is_empty}
use Rattle.iri_references.proofs.Marks.{NoneAre}

none_pass : (test : ℕ → Bool) (cs : List ℕ) → NonePass test cs → NoneAre test cs
none_pass test [] h = tt
none_pass test (c ∷ cs) h = (not_from_false (test c) h.0, none_pass test cs h.1)

pub none_of : (test : ℕ → Bool) (bs : List ℕ) → IsUtf8 bs → NoCharPasses test bs → NoneAre test (chars bs)
none_of test bs u h =
    let same : h.0 ≡ chars bs = encodes_same h.0 (chars bs) (h.1 ∙ sym (encodes-chars bs u)) in
    subst (NoneAre test) same (none_pass test h.0 h.2)

within_at : (c : ℕ) (bs : List ℕ) (i j : ℕ) → HasCharAt c bs i j → c < 128 → i < length bs
within_at c bs i j h small =
    let here : drop i bs ≡ c ∷ drop j bs = drop_at_char c bs i j h small in
    omega (arith, ap (λ (x : List ℕ). length x) here, length-drop i bs)

-- a text may be cut before an ASCII character
pub boundary_at : (c : ℕ) (bs : List ℕ) (i j : ℕ) → HasCharAt c bs i j → c < 128 → IsCharBoundary bs i
boundary_at c bs i j h small = IsCharBoundary-before_ascii bs i (within_at c bs i j h small) (subst (λ n. n < 128) (sym (h.byte small)) small)

-- the characters from an ASCII character on
pub chars_from : (c : ℕ) (bs : List ℕ) (i j : ℕ) → IsUtf8 bs → HasCharAt c bs i j → c < 128 → chars (drop i bs) ≡ c ∷ chars (drop j bs)
chars_from c bs i j u h small = chars_past_char (drop i bs) (drop j bs) c (IsUtf8-drop bs i u (boundary_at c bs i j h small)) h.split

-- a text that is cut at an ASCII character has its characters cut there
pub cut_at : (c : ℕ) (bs : List ℕ) (i j : ℕ) → IsUtf8 bs → HasCharAt c bs i j → c < 128 → chars bs ≡ chars (take i bs) ++ c ∷ chars (drop j bs)
cut_at c bs i j u h small =
    sym (ap chars (take-append-drop i bs))
    ∙ chars-append (take i bs) (drop i bs) (IsUtf8-take bs i u (boundary_at c bs i j h small))
    ∙ ap (λ x. chars (take i bs) ++ x) (chars_from c bs i j u h small)

pub front_utf8 : (c : ℕ) (bs : List ℕ) (i j : ℕ) → IsUtf8 bs → HasCharAt c bs i j → c < 128 → IsUtf8 (take i bs)
front_utf8 c bs i j u h small = IsUtf8-take bs i u (boundary_at c bs i j h small)

pub back_utf8 : (c : ℕ) (bs : List ℕ) (i j : ℕ) → IsUtf8 bs → HasCharAt c bs i j → IsUtf8 (drop j bs)
back_utf8 c bs i j u h = subst (λ n. IsUtf8 (drop n bs)) (sym h.ends) (IsUtf8-drop bs (i + len_utf8 c) u h.after)

-- a test that a text is a word of ASCII
pub word_is : (text word : List ℕ) → IsUtf8 text → list_all is_ascii word ≡ true → bytes_eq text word ≡ text_eq (chars text) word
word_is text word u h =
    sym (ap (λ x. bytes_eq x word) (encodes-chars text u))
    ∙ sym (ap (bytes_eq (encode_utf8_all (chars text))) (ascii_bytes word h))
    ∙ same_bytes (chars text) word

-- what `split_once` tells of the characters
pub first_cut : (c : ℕ) (bs : List ℕ) (front back : Bor (List ℕ)) → IsUtf8 bs → IsSplitOnceResult c bs (Some (front, back)) → c < 128 → (chars bs ≡ chars front.now ++ c ∷ chars back.now) × NoneAre (λ d. d == c) (chars front.now)
first_cut c bs front back u h small = (
  cut_at c bs h.0 h.1 u h.2.1 small ∙ ap (λ x. chars x ++ c ∷ chars (drop h.1 bs)) (sym h.3) ∙ ap (λ x. chars front.now ++ c ∷ chars x) (sym h.4),
  subst (λ x. NoneAre (λ d. d == c) (chars x)) (sym h.3) (none_of (λ d. d == c) (take h.0 bs) (front_utf8 c bs h.0 h.1 u h.2.1 small) h.2.0),
)

-- a text with an ASCII character behind it
pub chars_push : (bs : List ℕ) (c : ℕ) → IsUtf8 bs → c < 128 → chars (bs ++ encode_utf8 c) ≡ chars bs ++ c ∷ []
chars_push bs c u small =
    chars-append bs (encode_utf8 c) u
    ∙ ap (λ x. chars bs ++ x) (ap chars (encode_ascii c small) ∙ chars-IsAscii (c ∷ []) (IsAscii-cons c [] small IsAscii-nil))

-- the text up to and with an ASCII character
take_through : (c : ℕ) (bs : List ℕ) (i j : ℕ) → HasCharAt c bs i j → c < 128 → take (i + 1) bs ≡ take i bs ++ encode_utf8 c
take_through c bs i j h small =
    take_more bs i 0 (within_at c bs i j h small)
    ∙ ap (λ x. take i bs ++ x ∷ []) (h.byte small)
    ∙ ap (λ x. take i bs ++ x) (sym (encode_ascii c small))

-- what `find` tells of the characters
pub record IsFound (c : ℕ) (bs : List ℕ) (i : ℕ) : Type 0 where
  pub behind : List ℕ
  pub parts : chars bs ≡ chars (take i bs) ++ c ∷ behind
  pub first : NoneAre (λ d. d == c) (chars (take i bs))
  pub rest : chars (drop i bs) ≡ c ∷ behind

pub find_cut : (c : ℕ) (bs : List ℕ) (i : ℕ) → IsUtf8 bs → MatchBeginsAt (FindsChar c) bs i → c < 128 → IsFound c bs i
find_cut c bs i u h small = record {
  behind = chars (drop h.0 bs);
  parts = cut_at c bs i h.0 u h.1.1 small;
  first = none_of (λ d. d == c) (take i bs) (front_utf8 c bs i h.0 u h.1.1 small) h.1.0;
  rest = chars_from c bs i h.0 u h.1.1 small;
}

-- what `rfind` tells of them
pub record IsFoundLast (c : ℕ) (bs : List ℕ) (i : ℕ) : Type 0 where
  pub behind : List ℕ
  pub parts : chars bs ≡ chars (take i bs) ++ c ∷ behind
  pub last : NoneAre (λ d. d == c) behind
  pub through : chars (take (i + 1) bs) ≡ chars (take i bs) ++ c ∷ []

pub rfind_cut : (c : ℕ) (bs : List ℕ) (i : ℕ) → IsUtf8 bs → MatchBeginsAt (RFindsChar c) bs i → c < 128 → IsFoundLast c bs i
rfind_cut c bs i u h small = record {
  behind = chars (drop h.0 bs);
  parts = cut_at c bs i h.0 u h.1.1 small;
  last = none_of (λ d. d == c) (drop h.0 bs) (back_utf8 c bs i h.0 u h.1.1) h.1.0;
  through = ap chars (take_through c bs i h.0 h.1.1 small) ∙ chars_push (take i bs) c (front_utf8 c bs i h.0 u h.1.1 small) small;
}

-- the test of an empty text
empty_by : (cs bs : List ℕ) → encode_utf8_all cs ≡ bs → (length bs == 0) ≡ is_empty cs
empty_by [] bs e = ap (λ (x : List ℕ). length x == 0) (sym e)
empty_by (c ∷ cs) bs e =
    let size : length bs ≡ length (encode_utf8_all (c ∷ cs)) = ap (λ (x : List ℕ). length x) (sym e) in
    let some : length (c ∷ cs) ≤ length (encode_utf8_all (c ∷ cs)) = length-le-encodes (c ∷ cs) in
    ne_eqb (length bs) 0 (λ z. omega arith)

pub empty_is : (bs : List ℕ) → IsUtf8 bs → (length bs == 0) ≡ is_empty (chars bs)
empty_is bs u = empty_by (chars bs) bs (encodes-chars bs u)

-- the test of the first character
begins_not : (c : ℕ) (cs bs : List ℕ) → encode_utf8_all cs ≡ bs → ((rest : List ℕ) → bs ≡ encode_utf8 c ++ rest → ⊥) → begins_with (λ d. d == c) cs ≡ false
begins_not c [] bs e none = refl
begins_not c (d ∷ cs) bs e none =
    ne_eqb d c (λ same. none (encode_utf8_all cs) (sym e ∙ ap (λ x. encode_utf8 x ++ encode_utf8_all cs) same))

pub begins_is : (c : ℕ) (bs : List ℕ) (r : Bool) → IsUtf8 bs → MatchBool r (HasPrefixMatch (FindsCharPrefix c) bs) (FindsCharPrefix c bs None) → r ≡ begins_with (λ d. d == c) (chars bs)
begins_is c bs true u h =
    sym (ap (begins_with (λ d. d == c)) (chars_past_char bs (drop h.0 bs) c u h.1.split) ∙ eq-eqb c c refl)
begins_is c bs false u h = sym (begins_not c (chars bs) bs (encodes-chars bs u) h)

-- what `strip_prefix` and `strip_suffix` tell of them
pub stripped_front : (front bs : List ℕ) (r : Option (Bor (List ℕ))) → IsUtf8 front → MatchOption r (FindsTextPrefix front bs None) (λ x. StripsPrefix (FindsTextPrefix front) bs x.now) → IfSome r (λ rest. chars bs ≡ chars front ++ chars rest.now)
stripped_front front bs None u h = tt
stripped_front front bs (Some rest) u h = ap chars (h.1.1 ∙ ap (λ x. front ++ x) (sym h.2)) ∙ chars-append front rest.now u

pub stripped_end : (end bs : List ℕ) (r : Option (Bor (List ℕ))) → IsUtf8 bs → MatchOption r (FindsTextSuffix end bs None) (λ x. StripsSuffix (FindsTextSuffix end) bs x.now) → IfSome r (λ front. chars bs ≡ chars front.now ++ chars end)
stripped_end end bs None u h = tt
stripped_end end bs (Some front) u h =
    let utf8 : IsUtf8 front.now = subst IsUtf8 (sym (h.2 ∙ ap (λ n. take (length bs - n) bs) h.1.0)) (IsUtf8-take bs (length bs - length end) u h.1.2) in
    ap chars (h.1.1 ∙ ap (λ x. x ++ end) (sym h.2)) ∙ chars-append front.now end utf8
