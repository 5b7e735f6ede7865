-- What tests of the bytes of names say of characters.
use Rattle.std.proofs.Common.{◌≡◌, ℕ, Bool, true, ◌||◌, List, [], ◌∷◌, refl, ap, ◌∙◌, map}
use Rattle.std.specs.List.{list_all, list_any}
use Rattle.std.specs.Str.{bytes_eq, encode_utf8_all}
use denote.Ref.{Bor}
use Rattle.std.proofs.lemmas.Bool.{and_parts}
use Rattle.owl_characters.proofs.AsciiLaws.{word_is}
use Rattle.owl_characters.specs.Iri.{is_ascii}
use Rattle.owl_characters.specs.Order.{text_eq}
use Rattle.rdf_terms.specs.Datatypes.{has}
use Rattle.rdf_terms.specs.Tables.{are_ascii, is_name, shown}

-- tests that say the same of each element that is fine say the same of all
pub any_same : {X Y : Type 0} (fine : X → Bool) (f : X → Bool) (g : Y → Bool) (v : X → Y) → ((x : X) → fine x ≡ true → f x ≡ g (v x)) → (xs : List X) → list_all fine xs ≡ true → list_any f xs ≡ list_any g (map v xs)
any_same fine f g v same [] h = refl
any_same fine f g v same (x ∷ xs) h =
    let both = and_parts (fine x) (list_all fine xs) h in
    ap (λ b. b || list_any f xs) (same x both.0) ∙ ap (λ b. g (v x) || b) (any_same fine f g v same xs both.1)

-- a text is one of the names where its characters are
pub names_are : (names : List (Bor (List ℕ))) (cs : List ℕ) → are_ascii names ≡ true → list_any (λ name. bytes_eq name.now (encode_utf8_all cs)) names ≡ has (shown names) cs
names_are names cs h =
    any_same (λ name. list_all is_ascii name.now) (λ name. bytes_eq name.now (encode_utf8_all cs)) (λ other. text_eq other cs) (λ name. name.now)
    (λ name p. word_is name.now cs p) names h

pub is_name-ascii : (names : List (Bor (List ℕ))) (cs : List ℕ) → are_ascii names ≡ true → is_name names (encode_utf8_all cs) ≡ has (shown names) cs
unfolding is_name
is_name-ascii names cs h = names_are names cs h
