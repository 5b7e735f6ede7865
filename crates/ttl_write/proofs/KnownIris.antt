-- An IRI is a reference that stands for itself.
use Rattle.std.proofs.Common.{◌≡◌, ℕ, ◌+◌, Bool, true, cond, not, Option, None, Some, Ok, Err, List, [], ◌∷◌, ◌++◌, length, take, refl, sym, ap, ◌∙◌, subst, one-add}
use Rattle.std.specs.Prelude.{◌==◌, if◌then◌else◌}
use Rattle.std.specs.Char.{is_ascii_alphabetic}
use Rattle.std.specs.List.{list_all, list_any, position_or_len}
use Rattle.std.proofs.Math.Seq.{take-append_seam}
use Rattle.std.proofs.lemmas.Bool.{and_from, or_right}
use Rattle.std.proofs.lemmas.List.Folds.{list_any-append}
use Rattle.owl_characters.proofs.AllAreLaws.{all_are}
use Rattle.owl_characters.specs.Iri.{AllAre, IsIri, IsScheme, is_iri_character, is_scheme_character}
use Rattle.owl_characters.proofs.IriLaws.{iri_characters, scheme_characters}
use Rattle.iri_references.specs.References.{before, colon, has_scheme, is_scheme}
use Rattle.iri_references.specs.Resolution.{resolved, resolved_without_scheme}
use Rattle.owl_reader.specs.declared.fault.Reason.TheVariants.{BadIri}
use Rattle.owl_reader.specs.declared.fault.TokenFault.TheVariants.{Defect}
use Rattle.owl_tokens.specs.CharacterLaws.{differs}
use Rattle.ttl_grammar.specs.States.{against, alone, known_iri}

abbrev is_colon : ℕ → Bool
is_colon c = c == colon

colon_behind : (front rest : List ℕ) → AllAre is_scheme_character front → position_or_len is_colon (front ++ colon ∷ rest) ≡ length front
colon_behind [] rest a = refl
colon_behind (c ∷ cs) rest a =
    let others = position_or_len is_colon (cs ++ colon ∷ rest) in
    let first : position_or_len is_colon (c ∷ (cs ++ colon ∷ rest)) ≡ 1 + others = subst (λ (b : Bool). cond (not b) (1 + others) 0 ≡ 1 + others) (sym (differs is_scheme_character c 0x3A a.0 refl)) refl in
    first ∙ ap (λ (n : ℕ). 1 + n) (colon_behind cs rest a.1) ∙ one-add (length cs)

scheme_test : (cs : List ℕ) → IsScheme cs → is_scheme cs ≡ true
scheme_test [] h = absurd h
scheme_test (c ∷ cs) h = and_from (is_ascii_alphabetic c) (list_all is_scheme_character (c ∷ cs)) h.0 ((all_are is_scheme_character (c ∷ cs)).1 (scheme_characters (c ∷ cs) h))

scheme_stands : (scheme rest : List ℕ) → IsScheme scheme → has_scheme (scheme ++ colon ∷ rest) ≡ true
scheme_stands scheme rest h =
    let cut : before colon (scheme ++ colon ∷ rest) ≡ scheme =
    ap (λ (n : ℕ). take n (scheme ++ colon ∷ rest)) (colon_behind scheme rest (scheme_characters scheme h)) ∙ take-append_seam scheme (colon ∷ rest) in
    and_from (list_any is_colon (scheme ++ colon ∷ rest)) (is_scheme (before colon (scheme ++ colon ∷ rest)))
    (list_any-append is_colon scheme (colon ∷ rest) ∙ or_right (list_any is_colon scheme) true refl)
    (ap is_scheme cut ∙ scheme_test scheme h)

iri_has_scheme : (iri : List ℕ) → IsIri iri → has_scheme iri ≡ true
iri_has_scheme iri h = ap has_scheme h.parts ∙ scheme_stands h.scheme h.rest h.named

-- with and without a base
against_any : (base : Option (List ℕ)) (iri : List ℕ) → IsIri iri → against base iri ≡ Ok iri
unfolding resolved
against_any None iri h = ap (λ (b : Bool). alone (if b then Some iri else None)) (iri_has_scheme iri h)
against_any (Some base) iri h = ap (λ (b : Bool). Ok (if b then iri else resolved_without_scheme base iri)) (iri_has_scheme iri h)

pub iri_is_known : (base : Option (List ℕ)) (iri : List ℕ) → IsIri iri → known_iri base iri ≡ Ok iri
iri_is_known base iri h =
    ap (λ (b : Bool). if b then against base iri else Err (Defect BadIri)) ((all_are is_iri_character iri).1 (iri_characters iri h))
    ∙ against_any base iri h
