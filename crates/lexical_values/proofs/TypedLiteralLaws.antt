-- A form with a datatype denotes what its characters say.
use Rattle.std.proofs.Common.{◌≡◌, inl, inr, ℕ, Bool, true, false, ◌&&◌, List, [], ◌∷◌, ◌++◌, Option, None, Some, refl, sym, ap, ◌∙◌, subst}
use Rattle.std.specs.Prelude.{◌==◌, if◌then◌else◌}
use Rattle.std.specs.Char.{is_ascii_alphabetic, is_ascii_alphanumeric}
use Rattle.std.proofs.lemmas.Bool.{and_parts, both_ways, cases_Bool, eqb-true}
use Rattle.std.proofs.lemmas.Option.{same_Some}
use Rattle.std.proofs.lemmas.Slice.Eq.{bytes_eq-Decides}
use Rattle.owl_characters.proofs.LanguageTagLaws.{tag_from_fits, tag_to_fits}
use Rattle.owl_characters.specs.Names.{is_hyphen}
use Rattle.owl_characters.specs.Order.{text_eq}
use Rattle.owl_characters.specs.OrderLaws.{equal, unequal}
use Rattle.owl_characters.specs.Subtags.{tag_fits}
use Rattle.rdf_terms.specs.Literals.{DenotesTyped, LiteralParts, PlainForm, PlainParts, lang_string, of_datatype, plain_literal, with_tag}
use Rattle.lexical_values.specs.TypedLiterals.{Halves, halves, or_here, plain_form, typed_literal, with_rest}

-- ---- halves

at : ℕ
at = 0x40

-- no `@` stands in a text
abbrev HasNone : List ℕ → Type 0
HasNone cs = halves cs ≡ None

-- a text of characters that pass a test which `@` fails has none
none_by : (c : ℕ) (cs : List ℕ) → (c == 0x40) ≡ false → HasNone cs → HasNone (c ∷ cs)
none_by c cs e h = ap (or_here c cs) h ∙ ap (λ (b : Bool). if b then Some (record { text = []; rest = cs }) else None) e

fails_at : (test : ℕ → Bool) → test 0x40 ≡ false → (c : ℕ) → test c ≡ true → (c == 0x40) ≡ false
fails_at test fails c passes = elim (cases_Bool (c == 0x40)) as (λ _. (c == 0x40) ≡ false) [
  | inl t ↦ absurd (both_ways (test c) (ap test (eqb-true c 0x40 t) ∙ fails) passes)
  | inr f ↦ f
]

tag_has_none : (test : ℕ → Bool) (some : Bool) (cs : List ℕ) → test 0x40 ≡ false → tag_fits test some cs ≡ true → HasNone cs
tag_has_none test some [] fails h = refl
tag_has_none test some (c ∷ cs) fails h = elim (cases_Bool (is_hyphen c)) as (λ _. HasNone (c ∷ cs)) [
  | inl t ↦
      let fits = sym (ap (λ (b : Bool). if b then (some && tag_fits is_ascii_alphanumeric false cs) else (test c && tag_fits test true cs)) t) ∙ h in
      none_by c cs (fails_at is_hyphen refl c t) (tag_has_none is_ascii_alphanumeric false cs refl (and_parts some (tag_fits is_ascii_alphanumeric false cs) fits).1)
  | inr f ↦
      let fits = sym (ap (λ (b : Bool). if b then (some && tag_fits is_ascii_alphanumeric false cs) else (test c && tag_fits test true cs)) f) ∙ h in
      let both = and_parts (test c) (tag_fits test true cs) fits in
      none_by c cs (fails_at test fails c both.0) (tag_has_none test true cs fails both.1)
]

-- the halves of a form are those around its last `@`
halves_are : (text rest : List ℕ) → HasNone rest → halves (text ++ (0x40 ∷ rest)) ≡ Some (record { text = text; rest = rest })
halves_are [] rest h = ap (or_here 0x40 rest) h
halves_are (c ∷ text) rest h = ap (or_here c (text ++ (0x40 ∷ rest))) (halves_are text rest h)

-- and they are parts of the form
abbrev AreHalves : List ℕ → Option Halves → Type 0
AreHalves form None = Unit {0}
AreHalves form (Some h) = form ≡ h.text ++ (0x40 ∷ h.rest)

or_here_are : (c : ℕ) (cs : List ℕ) (o : Option Halves) → AreHalves cs o → AreHalves (c ∷ cs) (or_here c cs o)
or_here_are c cs None h = elim (cases_Bool (c == 0x40)) as (λ _. AreHalves (c ∷ cs) (or_here c cs None)) [
  | inl t ↦
      subst (λ (b : Bool). AreHalves (c ∷ cs) (if b then Some (record { text = []; rest = cs }) else None)) (sym t)
      (ap (λ (n : ℕ). n ∷ cs) (eqb-true c 0x40 t))
  | inr f ↦ subst (λ (b : Bool). AreHalves (c ∷ cs) (if b then Some (record { text = []; rest = cs }) else None)) (sym f) tt
]
or_here_are c cs (Some h) e = ap (λ (l : List ℕ). c ∷ l) e

are_halves : (form : List ℕ) → AreHalves form (halves form)
are_halves [] = tt
are_halves (c ∷ cs) = or_here_are c cs (halves cs) (are_halves cs)

-- ---- forms of rdf:PlainLiteral

rest_has_none : (text rest : List ℕ) (literal : LiteralParts) → PlainParts text rest literal → HasNone rest
rest_has_none text [] literal p = refl
rest_has_none text (c ∷ cs) literal p = tag_has_none is_ascii_alphabetic false (c ∷ cs) refl (tag_to_fits (c ∷ cs) p.0)

rest_denotes : (text rest : List ℕ) (literal : LiteralParts) → PlainParts text rest literal → with_rest text rest ≡ Some literal
rest_denotes text [] literal p = ap (λ (l : LiteralParts). Some l) (sym p)
rest_denotes text (c ∷ cs) literal p =
    ap (λ (b : Bool). if b then Some (with_tag text (c ∷ cs)) else None) (tag_to_fits (c ∷ cs) p.0)
    ∙ ap (λ (l : LiteralParts). Some l) (sym p.1)

plain_found : (form : List ℕ) (literal : LiteralParts) → PlainForm form literal → plain_form (halves form) ≡ Some literal
plain_found form literal p =
    ap (λ (cs : List ℕ). plain_form (halves cs)) p.parts
    ∙ ap plain_form (halves_are p.text p.rest (rest_has_none p.text p.rest literal p.denotes))
    ∙ rest_denotes p.text p.rest literal p.denotes

rest_says : (text rest : List ℕ) (literal : LiteralParts) → with_rest text rest ≡ Some literal → PlainParts text rest literal
rest_says text [] literal e = sym (same_Some _ _ e)
rest_says text (c ∷ cs) literal e = elim (cases_Bool (tag_fits is_ascii_alphabetic false (c ∷ cs))) as (λ _. PlainParts text (c ∷ cs) literal) [
  | inl t ↦ (
    tag_from_fits (c ∷ cs) t,
    sym (same_Some _ _ (sym (ap (λ (b : Bool). if b then Some (with_tag text (c ∷ cs)) else None) t) ∙ e)),
  )
  | inr f ↦
      let none : None ≡ Some literal = sym (ap (λ (b : Bool). if b then Some (with_tag text (c ∷ cs)) else None) f) ∙ e in
      absurd (cc)
]

plain_says : (form : List ℕ) (literal : LiteralParts) (o : Option Halves) → AreHalves form o → plain_form o ≡ Some literal → PlainForm form literal
plain_says form literal None h e = absurd (cc)
plain_says form literal (Some h) are e = record { text = h.text; rest = h.rest; parts = are; denotes = rest_says h.text h.rest literal e }

-- ---- forms with a datatype

-- by what the datatype is
abbrev by_datatype : Bool → Bool → List ℕ → List ℕ → Option LiteralParts
by_datatype plain tagged form datatype =
    if plain then plain_form (halves form) else (if tagged then None else Some (of_datatype form datatype))

pub denoted_is_found : (form datatype : List ℕ) (literal : LiteralParts) → DenotesTyped form datatype literal → typed_literal form datatype ≡ Some literal
denoted_is_found form datatype literal (inl h) =
    ap (λ (b : Bool). by_datatype b (text_eq datatype lang_string) form datatype) (equal datatype plain_literal h.0) ∙ plain_found form literal h.1
denoted_is_found form datatype literal (inr h) =
    ap (λ (b : Bool). by_datatype b (text_eq datatype lang_string) form datatype) (unequal datatype plain_literal h.0)
    ∙ ap (λ (b : Bool). by_datatype false b form datatype) (unequal datatype lang_string h.1)
    ∙ ap (λ (l : LiteralParts). Some l) (sym h.2)

pub found_is_denoted : (form datatype : List ℕ) (literal : LiteralParts) → typed_literal form datatype ≡ Some literal → DenotesTyped form datatype literal
found_is_denoted form datatype literal e = elim (cases_Bool (text_eq datatype plain_literal)) as (λ _. DenotesTyped form datatype literal) [
  | inl t ↦
      let f : plain_form (halves form) ≡ Some literal = sym (ap (λ (b : Bool). by_datatype b (text_eq datatype lang_string) form datatype) t) ∙ e in
      inl ((bytes_eq-Decides datatype plain_literal).0 t, plain_says form literal (halves form) (are_halves form) f)
  | inr n ↦
      let f : by_datatype false (text_eq datatype lang_string) form datatype ≡ Some literal = sym (ap (λ (b : Bool). by_datatype b (text_eq datatype lang_string) form datatype) n) ∙ e in
      elim (cases_Bool (text_eq datatype lang_string)) as (λ _. DenotesTyped form datatype literal) [
        | inl t ↦
            let none : None ≡ Some literal = sym (ap (λ (b : Bool). by_datatype false b form datatype) t) ∙ f in
            absurd (cc)
        | inr m ↦
            inr (
              λ same. both_ways (text_eq datatype plain_literal) n (equal datatype plain_literal same),
              λ same. both_ways (text_eq datatype lang_string) m (equal datatype lang_string same),
              sym (same_Some _ _ (sym (ap (λ (b : Bool). by_datatype false b form datatype) m) ∙ f)),
            )
      ]
]

-- a form that denotes nothing is none
pub nothing_is_denoted : (form datatype : List ℕ) (o : Option LiteralParts) → typed_literal form datatype ≡ o → ((literal : LiteralParts) → DenotesTyped form datatype literal → ⊥) → o ≡ None
nothing_is_denoted form datatype None e never = refl
nothing_is_denoted form datatype (Some literal) e never = absurd (never literal (found_is_denoted form datatype literal e))
