-- What is found in bytes.
use Rattle.std.proofs.Common.{◌≡◌, ◌<◌, ◌^◌, ℕ, List, [], ◌∷◌, Result, Ok, Err, length, refl, ap, ◌∙◌}
use Rattle.std.specs.Prelude.{IfOk, IsErrAnd, IsErrOf, slice_index}
use Rattle.std.specs.Int.{from_be_bytes, w64}
use Rattle.std.specs.Str.{chars, encode_utf8_all}
use Rattle.std.proofs.lemmas.Nat.{from_be_bytes-to_be_bytes_8}
use Rattle.std.proofs.lemmas.Str.{chars-encodes}
use Rattle.owl_canon.specs.Bytes.{number_bytes}
use Rattle.owl_canon.specs.Inputs.{Finds}
use Rattle.owl_canon.specs.Limits.{IsText}
use Rattle.owl_canon.specs.declared.fault.CanonFault.{CanonFault}
use Rattle.owl_canon.specs.declared.fault.CanonFault.TheVariants.{Memory, NotCanon}

-- want of memory that a `?` passes on
pub passed_on : {X : Type 0} (r : Result X CanonFault) (found : CanonFault) (Fact : X → Type 0) → IsErrAnd r (λ y. y ≡ found) → found ≡ Memory → Finds r Fact
passed_on (Ok x) found Fact h k = absurd h
passed_on (Err fault) found Fact h k = h ∙ k

-- nor is it a refusal then
pub not_refused : {X : Type 0} (r : Result X CanonFault) (found : CanonFault) → IsErrAnd r (λ y. y ≡ found) → found ≡ Memory → IsErrOf r NotCanon → ⊥
not_refused (Ok x) found h k e = absurd h
not_refused (Err fault) found h k e = cc

pub finds_later : {X : Type 0} (r : Result X CanonFault) (P Q : X → Type 0) → ((x : X) → P x → Q x) → Finds r P → Finds r Q
finds_later (Ok x) P Q f h = f x h
finds_later (Err fault) P Q f h = h

pub if_ok_later : {X : Type 0} (r : Result X CanonFault) (P Q : X → Type 0) → ((x : X) → P x → Q x) → IfOk r P → IfOk r Q
if_ok_later (Ok x) P Q f h = f x h
if_ok_later (Err fault) P Q f h = tt

pub number_long : (n : ℕ) → length (number_bytes n) ≡ 8
unfolding number_bytes
number_long n = refl

-- the bytes at the first eight places
abbrev first_eight : List ℕ → List ℕ
first_eight bytes =
    slice_index bytes 0 ∷ slice_index bytes 1 ∷ slice_index bytes 2 ∷ slice_index bytes 3
    ∷ slice_index bytes 4 ∷ slice_index bytes 5 ∷ slice_index bytes 6 ∷ slice_index bytes 7 ∷ []

pub number_back : (bytes : List ℕ) (n : ℕ) → n < 2 ^ 64 → bytes ≡ number_bytes n → from_be_bytes w64 (first_eight bytes) ≡ n
unfolding number_bytes
number_back bytes n l e = ap (λ (bs : List ℕ). from_be_bytes w64 (first_eight bs)) e ∙ from_be_bytes-to_be_bytes_8 n l

-- a text from its bytes
pub text_back : (text bytes : List ℕ) → IsText text → bytes ≡ encode_utf8_all text → chars bytes ≡ text
text_back text bytes h e = ap chars e ∙ chars-encodes text h.characters
