-- The characters of schemes and IRIs.
use Rattle.std.proofs.Common.{◌≡◌, ℕ, true, List, [], ◌∷◌, ap, codes, ◌||◌, ◌++◌, refl, sym, subst, arith}
use Rattle.std.specs.Char.{is_ascii_alphabetic, is_ascii_digit}
use Rattle.owl_characters.specs.Iri.{AllAre, is_among, IsScheme, is_scheme_character, IsIri, is_iri_character}
use Rattle.std.specs.List.{list_all}
use Rattle.std.proofs.lemmas.Bool.Decides.{nat_tests}
use Rattle.owl_characters.proofs.AllAreLaws.{all_are, AllAre-append, AllAre-weaker}

pub letter_is_scheme : (c : ℕ) → is_ascii_alphabetic c ≡ true → is_scheme_character c ≡ true
letter_is_scheme c h = ap (λ b. (b || is_ascii_digit c) || is_among (codes "+-.") c) h

pub scheme_characters : (cs : List ℕ) → IsScheme cs → AllAre is_scheme_character cs
scheme_characters [] h = absurd h
scheme_characters (c ∷ cs) h = (letter_is_scheme c h.0, h.1)

scheme_is_iri : (c : ℕ) → is_scheme_character c ≡ true → is_iri_character c ≡ true
scheme_is_iri c h = grind (arith, nat_tests)

pub iri_characters : (cs : List ℕ) → IsIri cs → AllAre is_iri_character cs
iri_characters cs h = subst (λ (x : List ℕ). AllAre is_iri_character x) (sym h.parts) (AllAre-append is_iri_character h.scheme (58 ∷ h.rest) (AllAre-weaker is_scheme_character is_iri_character scheme_is_iri h.scheme (scheme_characters h.scheme h.named)) (refl, h.allowed))

-- an IRI that is written out
pub written_iri : (rest : List ℕ) → list_all is_iri_character rest ≡ true → IsIri (codes "http:" ++ rest)
written_iri rest h =
    record { scheme = codes "http"; rest = rest; parts = refl; named = (refl, (refl, (refl, (refl, tt)))); allowed = (all_are is_iri_character rest).0 h }
