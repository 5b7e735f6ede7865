-- The forms of decimal and integer numbers.
use Rattle.std.proofs.Common.{◌≡◌, not, inl, inr, ℕ, ◌<◌, ◌↔◌, Bool, true, false, cond, List, [], ◌∷◌, ◌++◌, Some, refl, sym, ap, ◌∙◌, subst, drop, length, arith}
use Rattle.std.specs.Prelude.{◌==◌, ◌⊎◌, codes}
use Rattle.std.specs.Char.{digit_value, encode_utf8, is_ascii_digit}
use Rattle.std.specs.Int.{IsInRange}
use Rattle.std.specs.Str.{IsUtf8, chars, encode_utf8_all}
use Rattle.std.specs.Str.Parse.{AllDigits, IsNumeral, starts_with_minus, without_leading_sign}
use Rattle.std.specs.Str.Pattern.{HasCharAt}
use denote.Ref.{Bor}
use Rattle.std.proofs.lemmas.Bool.{eqb-true, false_from_ne_true, not-true}
use Rattle.std.proofs.lemmas.Bool.Decides.{nat_tests}
use Rattle.std.proofs.lemmas.Str.{chars-nil, digit_value_digit, encodes-chars}
use Rattle.std.proofs.lemmas.Str.Pattern.{IsSplitOnceResult}
use Rattle.owl_characters.specs.Iri.{AllAre}
use Rattle.owl_characters.specs.Names.{IsRunOf}
use Rattle.owl_characters.proofs.CutLaws.{found, same_cut}
use Rattle.rdf_terms.specs.Datatypes.{IsDecimalForm, UnsignedDecimal, whole, pointed, fraction}
use Rattle.rdf_terms.proofs.Characters.{NoneAre, cut_at, front_utf8}
use Rattle.rdf_terms.proofs.Iris.{another, without}

-- Runs of digits.

pub run_all : (test : ℕ → Bool) (cs : List ℕ) → IsRunOf test cs → AllAre test cs
run_all test [] h = absurd h
run_all test (c ∷ cs) h = h

pub all_run : (test : ℕ → Bool) (cs : List ℕ) → 0 < length cs → AllAre test cs → IsRunOf test cs
all_run test [] h k = absurd (omega arith)
all_run test (c ∷ cs) h k = k

pub run_some : (test : ℕ → Bool) (cs : List ℕ) → IsRunOf test cs → 0 < length cs
run_some test [] h = absurd h
run_some test (c ∷ cs) h = omega arith

-- no mark is a digit
pub no_digit : (x c : ℕ) → is_ascii_digit x ≡ false → is_ascii_digit c ≡ true → (c == x) ≡ false
no_digit x c f t = not-true (c == x) (another is_ascii_digit x c f t)

digit_below : (c : ℕ) → is_ascii_digit c ≡ true → digit_value c < 10
digit_below c h =
    let range : IsInRange 48 57 c = grind (arith, nat_tests) in
    omega (arith, digit_value_digit c range)

pub digits_numeral : (ds : List ℕ) → AllAre is_ascii_digit ds → AllDigits 10 ds
digits_numeral [] h = tt
digits_numeral (d ∷ ds) h = (digit_below d h.0, digits_numeral ds h.1)

pub run_numeral : (ds : List ℕ) → IsRunOf is_ascii_digit ds → IsNumeral 10 ds
run_numeral ds h = (run_some is_ascii_digit ds h, digits_numeral ds (run_all is_ascii_digit ds h))

-- Signs.

-- a text without a sign before it
pub record Unsigned (cs : List ℕ) : Type 0 where
  pub whole : without_leading_sign cs ≡ cs
  pub plain : starts_with_minus cs ≡ false

unsigned_from : (c : ℕ) (cs : List ℕ) → (c == 45) ≡ false → (c == 43) ≡ false → Unsigned (c ∷ cs)
unsigned_from c cs a b = record {
  whole = ap (λ t. cond t cs (drop (cond (c == 43) 1 0) (c ∷ cs))) a ∙ ap (λ t. drop (cond t 1 0) (c ∷ cs)) b;
  plain = a;
}

pub unsigned : (cs : List ℕ) → ((rest : List ℕ) → cs ≡ 45 ∷ rest → ⊥) → ((rest : List ℕ) → cs ≡ 43 ∷ rest → ⊥) → Unsigned cs
unsigned [] h k = record { whole = refl; plain = refl }
unsigned (c ∷ cs) h k = unsigned_from c cs
    (false_from_ne_true (c == 45) (λ t. h cs (ap (λ x. x ∷ cs) (eqb-true c 45 t))))
    (false_from_ne_true (c == 43) (λ t. k cs (ap (λ x. x ∷ cs) (eqb-true c 43 t))))

pub unsigned_run : (cs : List ℕ) → IsRunOf is_ascii_digit cs → Unsigned cs
unsigned_run [] h = absurd h
unsigned_run (c ∷ cs) h = unsigned_from c cs (no_digit 45 c refl h.0) (no_digit 43 c refl h.0)

-- a minus, a plus, or neither
pub data Signs (cs : List ℕ) : Type 0 where
  minus : (rest : List ℕ) → cs ≡ 45 ∷ rest → Signs cs
  plus : (rest : List ℕ) → cs ≡ 43 ∷ rest → Signs cs
  bare : Unsigned cs → Signs cs

signs_by : (c : ℕ) (cs : List ℕ) (a b : Bool) → (c == 45) ≡ a → (c == 43) ≡ b → Signs (c ∷ cs)
signs_by c cs true b e f = minus cs (ap (λ x. x ∷ cs) (eqb-true c 45 e))
signs_by c cs false true e f = plus cs (ap (λ x. x ∷ cs) (eqb-true c 43 f))
signs_by c cs false false e f = bare (unsigned_from c cs e f)

pub signs : (cs : List ℕ) → Signs cs
signs [] = bare (record { whole = refl; plain = refl })
signs (c ∷ cs) = signs_by c cs (c == 45) (c == 43) refl refl

-- what is behind a sign
pub behind : (c : ℕ) (bs rest : List ℕ) (n : ℕ) → IsUtf8 bs → HasCharAt c bs 0 n → rest ≡ drop n bs → c < 128 → chars bs ≡ c ∷ chars rest
behind c bs rest n u h e small = cut_at c bs 0 n u h small ∙ ap (λ x. x ++ c ∷ chars (drop n bs)) chars-nil ∙ ap (λ x. c ∷ chars x) (sym e)

-- no sign before the bytes, none before the characters
pub no_mark : (c : ℕ) (bs : List ℕ) → IsUtf8 bs → ((rest : List ℕ) → bs ≡ encode_utf8 c ++ rest → ⊥) → (rest : List ℕ) → chars bs ≡ c ∷ rest → ⊥
no_mark c bs u h rest e = h (encode_utf8_all rest) (sym (encodes-chars bs u) ∙ ap encode_utf8_all e)

-- Decimals.

-- the text before the first mark is text
pub first_utf8 : (c : ℕ) (bs : List ℕ) (front back : Bor (List ℕ)) → IsUtf8 bs → IsSplitOnceResult c bs (Some (front, back)) → c < 128 → IsUtf8 front.now
first_utf8 c bs front back u h small = subst IsUtf8 (sym h.3) (front_utf8 c bs h.0 h.1 u h.2.1 small)

signed_rest : (cs : List ℕ) → UnsignedDecimal cs → Unsigned cs
signed_rest cs (whole run) = unsigned_run cs run
signed_rest cs (pointed [] after run digits e) = absurd run
signed_rest cs (pointed (b ∷ before) after run digits e) = subst Unsigned (sym e) (unsigned_from b (before ++ 46 ∷ after) (no_digit 45 b refl run.0) (no_digit 43 b refl run.0))
signed_rest cs (fraction after run e) = subst Unsigned (sym e) (record { whole = refl; plain = refl })

decimal_by : (cs : List ℕ) → Signs cs → UnsignedDecimal (without_leading_sign cs) → IsDecimalForm cs
decimal_by cs (minus rest e) h = record { sign = codes "-"; rest = rest; parts = e; signed_so = inr (inr refl); number = subst (λ x. UnsignedDecimal (without_leading_sign x)) e h }
decimal_by cs (plus rest e) h = record { sign = codes "+"; rest = rest; parts = e; signed_so = inr (inl refl); number = subst (λ x. UnsignedDecimal (without_leading_sign x)) e h }
decimal_by cs (bare u) h = record { sign = []; rest = cs; parts = refl; signed_so = inl refl; number = subst UnsignedDecimal u.whole h }

decimal_rest : (cs sign rest : List ℕ) → cs ≡ sign ++ rest → (sign ≡ []) ⊎ ((sign ≡ codes "+") ⊎ (sign ≡ codes "-")) → UnsignedDecimal rest → UnsignedDecimal (without_leading_sign cs)
decimal_rest cs sign rest e (inl s) n = subst UnsignedDecimal (sym (ap without_leading_sign (e ∙ ap (λ x. x ++ rest) s) ∙ (signed_rest rest n).whole)) n
decimal_rest cs sign rest e (inr (inl s)) n = subst UnsignedDecimal (sym (ap without_leading_sign (e ∙ ap (λ x. x ++ rest) s))) n
decimal_rest cs sign rest e (inr (inr s)) n = subst UnsignedDecimal (sym (ap without_leading_sign (e ∙ ap (λ x. x ++ rest) s))) n

-- a decimal is an unsigned one behind the sign
pub decimal_is : (cs : List ℕ) → UnsignedDecimal (without_leading_sign cs) ↔ IsDecimalForm cs
decimal_is cs = (decimal_by cs (signs cs), λ d. decimal_rest cs d.sign d.rest d.parts d.signed_so d.number)

-- without a point it is digits
pub pointless : (cs : List ℕ) → NoneAre (λ c. c == 46) cs → UnsignedDecimal cs → IsRunOf is_ascii_digit cs
pointless cs fresh (whole run) = run
pointless cs fresh (pointed before after run digits e) = absurd (found (λ c. not (c == 46)) before 46 after cs fresh refl e)
pointless cs fresh (fraction after run e) = absurd (found (λ c. not (c == 46)) [] 46 after cs fresh refl e)

-- what stands on both sides of the first point
pub data Around (before after : List ℕ) : Type 0 where
  both : IsRunOf is_ascii_digit before → AllAre is_ascii_digit after → Around before after
  behind_alone : before ≡ [] → IsRunOf is_ascii_digit after → Around before after

around_cut : (before after b a : List ℕ) → NoneAre (λ c. c == 46) before → AllAre is_ascii_digit b → before ++ 46 ∷ after ≡ b ++ 46 ∷ a → (before ≡ b) × (after ≡ a)
around_cut before after b a fresh digits e =
    let same = same_cut (λ c. not (c == 46)) before b 46 46 after a fresh (without is_ascii_digit 46 b refl digits) refl refl e in
    (same.front, same.rest)

pub around : (cs before after : List ℕ) → cs ≡ before ++ 46 ∷ after → NoneAre (λ c. c == 46) before → UnsignedDecimal cs → Around before after
around cs before after e fresh (whole run) = absurd (found is_ascii_digit before 46 after cs (run_all is_ascii_digit cs run) refl e)
around cs before after e fresh (pointed b a run digits f) =
    let same = around_cut before after b a fresh (run_all is_ascii_digit b run) (sym e ∙ f) in
    both (subst (IsRunOf is_ascii_digit) (sym same.0) run) (subst (AllAre is_ascii_digit) (sym same.1) digits)
around cs before after e fresh (fraction a run f) =
    let same = around_cut before after [] a fresh tt (sym e ∙ f) in
    behind_alone same.0 (subst (IsRunOf is_ascii_digit) (sym same.1) run)

-- where nothing stands before the point
pub around_nothing : (after : List ℕ) → Around [] after → IsRunOf is_ascii_digit after
around_nothing after (both run digits) = absurd run
around_nothing after (behind_alone e run) = run

-- where something does
pub around_something : (before after : List ℕ) → 0 < length before → Around before after → IsRunOf is_ascii_digit before × AllAre is_ascii_digit after
around_something before after h (both run digits) = (run, digits)
around_something before after h (behind_alone e run) = absurd (omega (arith, ap (λ (x : List ℕ). length x) e))
