-- Hexadecimal digits as characters.
use Rattle.std.proofs.Common.{◌≡◌, ◌∙◌, List, [], ◌∷◌, ℕ, Bool, true, false, ◌&&◌, nat_lt, Result, Ok, Err, refl, ap}
use Rattle.std.specs.Prelude.{IfOk}
use Rattle.std.specs.List.{list_all}
use Rattle.std.specs.Str.{IsAscii, chars}
use Rattle.std.proofs.lemmas.Bool.{false≢true, ltb-true}
use Rattle.std.proofs.lemmas.Str.{chars-IsAscii}
use Rattle.std.proofs.lemmas.Str.Ascii.{IsAscii-cons, IsAscii-nil}
use Rattle.hex.specs.Hex.{encode_lower, lower_digits}
use Rattle.hex.proofs.HexLemmas.{IsAscii-encode_with}
use Rattle.owl_characters.specs.declared.text.NoMemory.{NoMemory}

both : (a b : Bool) → (a && b) ≡ true → (a ≡ true) × (b ≡ true)
both true b h = (refl, h)
both false b h = absurd (false≢true h)

all_ascii : (bs : List ℕ) → list_all (λ b. nat_lt b 128) bs ≡ true → IsAscii bs
all_ascii [] h = IsAscii-nil
all_ascii (b ∷ bs) h = let k = both (nat_lt b 128) (list_all (λ c. nat_lt c 128) bs) h in IsAscii-cons b bs (ltb-true b 128 k.0) (all_ascii bs k.1)

digits_ascii : IsAscii lower_digits
digits_ascii = all_ascii lower_digits refl

pub digits_told : (result : Result (List ℕ) NoMemory) (string text digest whole : List ℕ) → IfOk result (λ t. t ≡ chars text) → text ≡ string → string ≡ encode_lower digest → digest ≡ whole → IfOk result (λ t. t ≡ encode_lower whole)
digits_told (Ok t) string text digest whole h e f g =
    h ∙ ap chars (e ∙ f ∙ ap encode_lower g) ∙ chars-IsAscii (encode_lower whole) (IsAscii-encode_with lower_digits whole digits_ascii)
digits_told (Err fault) string text digest whole h e f g = tt
