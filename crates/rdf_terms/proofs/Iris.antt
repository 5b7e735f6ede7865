-- Which texts are IRIs.
use Rattle.std.proofs.Common.{◌≡◌, ℕ, ◌<◌, ◌↔◌, Bool, true, false, not, List, ◌∷◌, ◌++◌, Some, refl, sym, ap, ◌∙◌, subst, take, drop}
use Rattle.std.specs.Prelude.{◌==◌}
use Rattle.std.specs.Str.{IsUtf8, chars}
use denote.Ref.{Bor}
use Rattle.std.proofs.lemmas.Bool.{false_from_ne_true, eqb-true, not_from_false, both_ways}
use Rattle.std.proofs.lemmas.Str.Pattern.{IsSplitOnceResult}
use Rattle.owl_characters.specs.Iri.{AllAre, IsIri, IsScheme, is_iri_character, is_scheme_character}
use Rattle.owl_characters.proofs.IriLaws.{scheme_characters}
use Rattle.owl_characters.proofs.AllAreLaws.{AllAre-weaker}
use Rattle.owl_characters.proofs.CutLaws.{found, same_cut}
use Rattle.rdf_terms.proofs.Characters.{NoneAre, cut_at, front_utf8, none_of}

-- a character that passes a test is not one that fails it
pub another : (test : ℕ → Bool) (x c : ℕ) → test x ≡ false → test c ≡ true → not (c == x) ≡ true
another test x c f t =
    not_from_false (c == x) (false_from_ne_true (c == x) (λ same. both_ways (test c) (ap test (eqb-true c x same) ∙ f) t))

-- characters that pass a test have none that fails it
pub without : (test : ℕ → Bool) (x : ℕ) (cs : List ℕ) → test x ≡ false → AllAre test cs → NoneAre (λ c. c == x) cs
without test x cs f h = AllAre-weaker test (λ c. not (c == x)) (λ c t. another test x c f t) cs h

-- what is cut before the first colon is a scheme, and the rest may follow it, just where all of it is an IRI
pub iri_of_cut : (cs before after : List ℕ) → cs ≡ before ++ 58 ∷ after → NoneAre (λ c. c == 58) before → (IsScheme before × AllAre is_iri_character after) ↔ IsIri cs
iri_of_cut cs before after e fresh = (
  λ h. record { scheme = before; rest = after; parts = e; named = h.0; allowed = h.1 },
  λ i.
      let scheme_fresh : NoneAre (λ c. c == 58) i.scheme = without is_scheme_character 58 i.scheme refl (scheme_characters i.scheme i.named) in
      let same = same_cut (λ c. not (c == 58)) before i.scheme 58 58 after i.rest fresh scheme_fresh refl refl (sym e ∙ i.parts) in
      (subst IsScheme (sym same.front) i.named, subst (AllAre is_iri_character) (sym same.rest) i.allowed),
)

-- a text without a colon is none
pub no_iri : (cs : List ℕ) → NoneAre (λ c. c == 58) cs → IsIri cs → ⊥
no_iri cs fresh i = found (λ c. not (c == 58)) i.scheme 58 i.rest cs fresh refl i.parts

-- what `split_once` tells of the characters
pub first_cut : (c : ℕ) (bs : List ℕ) (front back : Bor (List ℕ)) → IsUtf8 bs → IsSplitOnceResult c bs (Some (front, back)) → c < 128 → (chars bs ≡ chars front.now ++ c ∷ chars back.now) × NoneAre (λ d. d == c) (chars front.now)
first_cut c bs front back u h small = (
  cut_at c bs h.0 h.1 u h.2.1 small ∙ ap (λ x. chars x ++ c ∷ chars (drop h.1 bs)) (sym h.3) ∙ ap (λ x. chars front.now ++ c ∷ chars x) (sym h.4),
  subst (λ x. NoneAre (λ d. d == c) (chars x)) (sym h.3) (none_of (λ d. d == c) (take h.0 bs) (front_utf8 c bs h.0 h.1 u h.2.1 small) h.2.0),
)
