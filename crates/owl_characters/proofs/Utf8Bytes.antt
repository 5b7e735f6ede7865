-- Which bytes begin a character.
use Rattle.std.proofs.Common.{◌≡◌, ◌≢◌, ◌⊎◌, inl, inr, ℕ, true, ◌&&◌, ◌+◌, ◌*◌, ◌-◌, ◌/◌, ◌%◌, ◌<◌, ◌≤◌, List, [], ◌∷◌, ◌++◌, length, refl, sym, ap, ◌∙◌, arith}
use Rattle.std.specs.Prelude.{nat_le, nat_lt}
use Rattle.std.specs.Char.{IsScalar, encode_utf8}
use Rattle.std.proofs.str.Laws.{two, three, four}
use Rattle.std.proofs.str.Faults.{no_char, Ranged}
use Rattle.std.proofs.lemmas.Bool.Decides.{nat_tests}
use Rattle.std.proofs.lemmas.Str.{encode_same}
use Rattle.std.proofs.Math.Utf8.{low_scalar}
use Rattle.std.proofs.lemmas.Bool.{cases_lt, cond-false, and_from, le-ltb, le-leb, lt-ltb}
use Rattle.std.proofs.lemmas.List.{append-nil, append_assoc}
use Rattle.owl_characters.specs.Utf8.{BeginsNoCharacter}
use Rattle.owl_characters.specs.declared.utf8_states.Partial.{Partial}
use Rattle.owl_characters.specs.declared.utf8_states.Partial.TheVariants.{Nothing, One, Two, Three}
use Rattle.owl_characters.specs.Feeding.{held_of, BeginsNone, IsUnfinished, IsLead, IsBegun, least_second, last_second}

-- the bounds of the second byte, without tests
pub record SecondBounds (a b : ℕ) : Type 0 where
  pub low : 128 ≤ b
  pub high : b ≤ 191
  pub three : a < 240 → 224 ≤ a → 32 ≤ (a - 224) * 64 + (b - 128)
  pub surrogate : a < 240 → 224 ≤ a → ((a - 224) * 64 + (b - 128) < 864) ⊎ (896 ≤ (a - 224) * 64 + (b - 128))
  pub four : 240 ≤ a → (16 ≤ (a - 240) * 64 + (b - 128)) × ((a - 240) * 64 + (b - 128) < 272)

pub least_bounds : (a : ℕ) → (128 ≤ least_second a) × (least_second a ≤ 160)
least_bounds a = (grind (arith, nat_tests), grind (arith, nat_tests))

pub last_bound : (a : ℕ) → last_second a ≤ 191
last_bound a = grind (arith, nat_tests)

pub second_bounds : (a b : ℕ) → a ≤ 244 → least_second a ≤ b → b ≤ last_second a → SecondBounds a b
second_bounds a b m l h = record {
  low = grind (arith, nat_tests);
  high = grind (arith, nat_tests);
  three = λ s t. grind (arith, nat_tests);
  surrogate = λ s t. grind (arith, nat_tests);
  four = λ s. (grind (arith, nat_tests), grind (arith, nat_tests));
}

pub one_wrong : (a : ℕ) → 128 ≤ a → (a < 194) ⊎ ((194 ≤ a) × (244 < a)) → BeginsNone (a ∷ [])
one_wrong a h (inl k) = λ more c rest s e. no_char (a ∷ more) 0 (λ r. let p = r.second h in omega arith) c rest s e
one_wrong a h (inr k) = λ more c rest s e. no_char (a ∷ more) 0 (λ r. let p = r.fourth (omega arith) in omega arith) c rest s e

pub two_whole : (a b c : ℕ) → 194 ≤ a → a < 224 → 128 ≤ b → b ≤ 191 → c ≡ (a - 192) * 64 + (b - 128) → encode_utf8 c ≡ a ∷ b ∷ []
two_whole a b c h k l m e =
    let x : 192 + c / 64 ≡ a = omega arith in
    let y : 128 + c % 64 ≡ b = omega arith in
    two c (omega arith) (omega arith) ∙ (ap (λ n. n ∷ (128 + c % 64) ∷ []) x ∙ ap (λ n. a ∷ n ∷ []) y)

pub three_whole : (a b d c : ℕ) → 224 ≤ a → a < 240 → SecondBounds a b → 128 ≤ d → d ≤ 191 → c ≡ ((a - 224) * 64 + (b - 128)) * 64 + (d - 128) → encode_utf8 c ≡ a ∷ b ∷ d ∷ []
three_whole a b d c h k s l m e =
    let low = s.three k h in
    let low2 = s.low in
    let high2 = s.high in
    let x : 224 + c / 4096 ≡ a = omega arith in
    let y : 128 + (c / 64) % 64 ≡ b = omega arith in
    let z : 128 + c % 64 ≡ d = omega arith in
    three c (omega arith) (omega arith) ∙ (ap (λ n. n ∷ (128 + (c / 64) % 64) ∷ (128 + c % 64) ∷ []) x ∙ ap (λ n. a ∷ n ∷ (128 + c % 64) ∷ []) y ∙ ap (λ n. a ∷ b ∷ n ∷ []) z)

pub four_whole : (a b d f c : ℕ) → 240 ≤ a → SecondBounds a b → 128 ≤ d → d ≤ 191 → 128 ≤ f → f ≤ 191 → c ≡ ((a - 240) * 64 + (b - 128)) * 4096 + ((d - 128) * 64 + (f - 128)) → encode_utf8 c ≡ a ∷ b ∷ d ∷ f ∷ []
four_whole a b d f c h s l m n o e =
    let bounds = s.four h in
    let low2 = s.low in
    let high2 = s.high in
    let x : 240 + c / 262144 ≡ a = omega arith in
    let y : 128 + (c / 4096) % 64 ≡ b = omega arith in
    let z : 128 + (c / 64) % 64 ≡ d = omega arith in
    let w : 128 + c % 64 ≡ f = omega arith in
    four c (omega arith) ∙ (ap (λ n. n ∷ (128 + (c / 4096) % 64) ∷ (128 + (c / 64) % 64) ∷ (128 + c % 64) ∷ []) x ∙ ap (λ n. a ∷ n ∷ (128 + (c / 64) % 64) ∷ (128 + c % 64) ∷ []) y ∙ ap (λ n. a ∷ b ∷ n ∷ (128 + c % 64) ∷ []) z ∙ ap (λ n. a ∷ b ∷ d ∷ n ∷ []) w)

-- what the ranges of a character say of its second byte
second_of : (a b n z w : ℕ) → 194 ≤ a → a ≤ 244 → Ranged n a b z w → (least_second a ≤ b) × (b ≤ last_second a)
second_of a b n z w h k r =
    let p = r.second (omega arith) in
    let q = r.in_three in
    let t = r.fourth in
    (grind (arith, nat_tests), grind (arith, nat_tests))

pub two_wrong : (a b l m : ℕ) → 194 ≤ a → a ≤ 244 → l ≡ least_second a → m ≡ last_second a → (b < l) ⊎ ((l ≤ b) × (m < b)) → BeginsNone (a ∷ b ∷ [])
two_wrong a b l m h k f g w = λ more c rest s e. no_char (a ∷ b ∷ more) 0 (λ r. let p = second_of a b _ _ _ h k r in out p w) c rest s e
  where
    out : (least_second a ≤ b) × (b ≤ last_second a) → (b < l) ⊎ ((l ≤ b) × (m < b)) → ⊥
    out p (inl x) = let q = p.0 in omega arith
    out p (inr x) = let q = p.1 in omega arith

pub three_wrong : (a b c : ℕ) → 224 ≤ a → (c < 128) ⊎ ((128 ≤ c) × (191 < c)) → BeginsNone (a ∷ b ∷ c ∷ [])
three_wrong a b c h (inl k) = λ more x rest s e. no_char (a ∷ b ∷ c ∷ more) 0 (λ r. let p = r.third h in omega arith) x rest s e
three_wrong a b c h (inr k) = λ more x rest s e. no_char (a ∷ b ∷ c ∷ more) 0 (λ r. let p = r.third h in omega arith) x rest s e

pub four_wrong : (a b c d : ℕ) → 240 ≤ a → (d < 128) ⊎ ((128 ≤ d) × (191 < d)) → BeginsNone (a ∷ b ∷ c ∷ d ∷ [])
four_wrong a b c d h (inl k) = λ more x rest s e. no_char (a ∷ b ∷ c ∷ d ∷ more) 0 (λ r. let p = r.fourth h in omega arith) x rest s e
four_wrong a b c d h (inr k) = λ more x rest s e. no_char (a ∷ b ∷ c ∷ d ∷ more) 0 (λ r. let p = r.fourth h in omega arith) x rest s e

-- a proper front of a character is none
pub unfinished_is_none : (bytes : List ℕ) → IsUnfinished bytes → BeginsNoCharacter bytes
unfinished_is_none bytes u d r s e =
    let same = encode_same u.character d [] (r ++ u.rest) (append-nil (encode_utf8 u.character) ∙ u.is ∙ ap (λ (x : List ℕ). x ++ u.rest) e ∙ append_assoc (encode_utf8 d) r u.rest) in
    let none : length u.rest ≡ 0 = nothing r u.rest same.1 in
    let some = u.some in
    omega arith
  where
    nothing : (r s : List ℕ) → [] ≡ r ++ s → length s ≡ 0
    nothing [] s e = ap (λ (x : List ℕ). length x) (sym e)
    nothing (x ∷ r) s e = cc

pub high_scalar : (c : ℕ) → 57344 ≤ c → c < 1114112 → IsScalar c
high_scalar c l h = cond-false (nat_lt c 55296) true (nat_le 57344 c && nat_lt c 1114112) (le-ltb c 55296 (omega arith)) ∙ and_from (nat_le 57344 c) (nat_lt c 1114112) (le-leb 57344 c l) (lt-ltb c 1114112 h)

-- without its last byte, a character or a front of it is unfinished
whole_unfinished : (bytes : List ℕ) (b c : ℕ) → IsScalar c → encode_utf8 c ≡ bytes ++ b ∷ [] → IsUnfinished bytes
whole_unfinished bytes b c s e = record { character = c; rest = b ∷ []; scalar = s; is = e; some = omega arith }

shorter : (bytes : List ℕ) (b : ℕ) → IsUnfinished (bytes ++ b ∷ []) → IsUnfinished bytes
shorter bytes b u = record { character = u.character; rest = b ∷ u.rest; scalar = u.scalar; is = u.is ∙ append_assoc bytes (b ∷ []) u.rest; some = omega arith }

three_unfinished : (a b d : ℕ) → 240 ≤ a → a ≤ 244 → SecondBounds a b → 128 ≤ d → d ≤ 191 → IsUnfinished (a ∷ b ∷ d ∷ [])
three_unfinished a b d h k s l m =
    let c = ((a - 240) * 64 + (b - 128)) * 4096 + ((d - 128) * 64 + (128 - 128)) in
    let bounds = s.four h in
    whole_unfinished (a ∷ b ∷ d ∷ []) 128 c (high_scalar c (omega arith) (omega arith)) (four_whole a b d 128 c h s l m (omega arith) (omega arith) refl)

two_unfinished : (a b : ℕ) → IsLead a b → SecondBounds a b → (a < 240) ⊎ (240 ≤ a) → IsUnfinished (a ∷ b ∷ [])
two_unfinished a b h s (inl k) =
    let c = ((a - 224) * 64 + (b - 128)) * 64 + (128 - 128) in
    let least = h.least in
    let low = s.three k least in
    let low2 = s.low in
    let high2 = s.high in
    let is = three_whole a b 128 c least k s (omega arith) (omega arith) refl in
    elim (s.surrogate k least) [
      | inl x ↦ whole_unfinished (a ∷ b ∷ []) 128 c (low_scalar c (omega arith)) is
      | inr x ↦ whole_unfinished (a ∷ b ∷ []) 128 c (high_scalar c (omega arith) (omega arith)) is
    ]
two_unfinished a b h s (inr k) = shorter (a ∷ b ∷ []) 128 (three_unfinished a b 128 k h.most s (omega arith) (omega arith))

pub lead_unfinished : (a b : ℕ) → IsLead a b → IsUnfinished (a ∷ b ∷ [])
lead_unfinished a b h = two_unfinished a b h (second_bounds a b h.most h.second.0 h.second.1) (cases_lt a 240)

one_unfinished : (a : ℕ) → 194 ≤ a → a ≤ 244 → (a < 224) ⊎ (224 ≤ a) → IsUnfinished (a ∷ [])
one_unfinished a h k (inl l) =
    let c = (a - 192) * 64 + (128 - 128) in
    whole_unfinished (a ∷ []) 128 c (low_scalar c (omega arith)) (two_whole a 128 c h l (omega arith) (omega arith) refl)
one_unfinished a h k (inr l) =
    shorter (a ∷ []) (least_second a) (lead_unfinished a (least_second a) (record { least = l; most = k; second = (omega arith, grind (arith, nat_tests)) }))

pub begun_unfinished : (bytes : List ℕ) → IsBegun bytes → 0 < length bytes → IsUnfinished bytes
begun_unfinished [] h n = absurd (omega arith)
begun_unfinished (a ∷ []) h n = one_unfinished a h.0 h.1 (cases_lt a 224)
begun_unfinished (a ∷ b ∷ []) h n = lead_unfinished a b h
begun_unfinished (a ∷ b ∷ c ∷ []) h n =
    let lead = h.0 in
    three_unfinished a b c h.1 lead.most (second_bounds a b lead.most lead.second.0 lead.second.1) h.2 h.3
begun_unfinished (a ∷ b ∷ c ∷ d ∷ bytes) h n = absurd h

pub held_unfinished : (p : Partial) → p ≢ Nothing → IsBegun (held_of p) → IsUnfinished (held_of p)
held_unfinished Nothing n h = absurd (n refl)
held_unfinished (One a) n h = begun_unfinished (a ∷ []) h (omega arith)
held_unfinished (Two a b) n h = begun_unfinished (a ∷ b ∷ []) h (omega arith)
held_unfinished (Three a b c) n h = begun_unfinished (a ∷ b ∷ c ∷ []) h (omega arith)

pub held_some : (p : Partial) → p ≢ Nothing → 0 < length (held_of p)
held_some Nothing n = absurd (n refl)
held_some (One a) n = omega arith
held_some (Two a b) n = omega arith
held_some (Three a b c) n = omega arith
