-- How many bytes characters take, and which characters are scalars.
use Rattle.std.proofs.Common.{◌≡◌, ℕ, ◌+◌, true, List, [], ◌∷◌, ◌++◌, ap, length, refl, arith}
use Rattle.std.specs.Char.{encode_utf8}
use Rattle.std.specs.Cmp.{second_so}
use Rattle.std.specs.Str.{all_scalars, encode_utf8_all}
use Rattle.std.proofs.lemmas.List.{length-append}
use Rattle.std.proofs.lemmas.Str.{length-encode, length-le-encodes}
use lib.Utf8.{scalar}
use Rattle.owl_characters.specs.Utf8.{BeginsNoCharacter, size}

pub size_append : (xs ys : List ℕ) → size (xs ++ ys) ≡ size xs + size ys
size_append [] ys = omega arith
size_append (x ∷ xs) ys = omega (arith, size_append xs ys)

-- the bytes of characters are as many as they take
pub size_is : (cs : List ℕ) → length (encode_utf8_all cs) ≡ size cs
size_is [] = refl
size_is (c ∷ cs) = omega (arith, length-append (encode_utf8 c) (encode_utf8_all cs), length-encode c, size_is cs)

-- what stands behind a front is of scalars where all is
pub scalars_behind : (front rest : List ℕ) → all_scalars (front ++ rest) ≡ true → all_scalars rest ≡ true
scalars_behind [] rest h = h
scalars_behind (c ∷ cs) rest h = scalars_behind cs rest (second_so (scalar c) (all_scalars (cs ++ rest)) h)

-- no character begins where there is no byte
pub no_bytes : BeginsNoCharacter []
no_bytes c rest h e =
    absurd (omega (arith, ap (λ (x : List ℕ). length x) e, length-append (encode_utf8 c) rest, length-append (encode_utf8 c) [], length-le-encodes (c ∷ [])))
