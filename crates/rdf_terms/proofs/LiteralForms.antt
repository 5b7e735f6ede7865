-- What the forms of literals denote.
use Rattle.std.proofs.Common.{Result, Ok, Err, IfOk, IsErrOf, IsNone, ◌⊎◌, Option, length, inl, inr, arith, ◌≡◌, ◌≢◌, ℕ, ◌<◌, ◌↔◌, true, false, not, List, [], ◌∷◌, ◌++◌, get_or, take, drop, Some, None, refl, sym, ap, ◌∙◌, subst}
use Rattle.std.specs.Prelude.{◌==◌}
use Rattle.std.specs.Str.{IsUtf8, chars}
use Rattle.std.specs.Str.Pattern.{RFindsChar}
use denote.Ref.{Bor}
use Rattle.std.proofs.lemmas.Bool.{false≢true}
use Rattle.std.specs.Option.{option_map}
use Rattle.rdf_terms.specs.declared.fault.LiteralFault.{LiteralFault}
use Rattle.rdf_terms.specs.declared.fault.LiteralFault.TheVariants.{BadLiteral}
use Rattle.owl_characters.specs.Names.{IsLanguageTag}
use Rattle.owl_characters.proofs.CutLaws.{found}
use Rattle.owl_characters.proofs.AsciiLaws.{ascii_chars}
use Rattle.rdf_terms.proofs.FormLaws.{rest_passes, same_last_cut}
use Rattle.rdf_terms.specs.Literals.{DenotesLiteral, DenotesTyped, FitsTag, LiteralParts, PlainForm, PlainParts, lang_string, of_datatype, plain_literal, string, with_tag}
use Rattle.rdf_terms.proofs.Characters.{NoneAre, back_utf8, cut_at, none_of}

-- what `rsplit_once` tells of the characters
pub last_cut : (c : ℕ) (bs : List ℕ) (front back : Bor (List ℕ)) (i j : ℕ) → IsUtf8 bs → RFindsChar c bs (Some (i, j)) → front.now ≡ take i bs → back.now ≡ drop j bs → c < 128 → (chars bs ≡ chars front.now ++ c ∷ chars back.now) × NoneAre (λ d. d == c) (chars back.now)
last_cut c bs front back i j u h before after small = (
  cut_at c bs i j u h.1 small ∙ ap (λ x. chars x ++ c ∷ chars (drop j bs)) (sym before) ∙ ap (λ x. chars front.now ++ c ∷ chars x) (sym after),
  subst (λ x. NoneAre (λ d. d == c) (chars x)) (sym after) (none_of (λ d. d == c) (drop j bs) (back_utf8 c bs i j u h.1) h.0),
)

-- what a form denotes is what the parts at its last `@` denote
pub parts_of_form : (form before after : List ℕ) → form ≡ before ++ 64 ∷ after → NoneAre (λ d. d == 64) after → (literal : LiteralParts) → PlainParts before after literal ↔ PlainForm form literal
parts_of_form form before after e fresh literal = (
  λ h. record { text = before; rest = after; parts = e; denotes = h },
  λ f.
      let same = same_last_cut (λ d. not (d == 64)) before f.text 64 after f.rest fresh (rest_passes f.text f.rest literal f.denotes) refl (sym e ∙ f.parts) in
      subst (λ x. PlainParts x after literal) (sym same.front) (subst (λ y. PlainParts f.text y literal) (sym same.rest) f.denotes),
)

pub no_form : (form : List ℕ) → NoneAre (λ d. d == 64) form → (literal : LiteralParts) → PlainForm form literal → ⊥
no_form form fresh literal f = found (λ d. not (d == 64)) f.text 64 f.rest form fresh refl f.parts

-- texts that differ at the place 18
apart : (a b : List ℕ) → (get_or a 18 0 == 50) ≡ true → (get_or b 18 0 == 50) ≡ false → a ≢ b
apart a b h k e = false≢true (sym k ∙ sym (ap (λ x. get_or x 18 0 == 50) e) ∙ h)

pub string_has_no_tags : FitsTag None string
string_has_no_tags = (apart string plain_literal refl refl, apart string lang_string refl refl)

pub string_chars : chars string ≡ string
string_chars = ascii_chars string refl

pub plain_literal_chars : chars plain_literal ≡ plain_literal
plain_literal_chars = ascii_chars plain_literal refl

pub lang_string_chars : chars lang_string ≡ lang_string
lang_string_chars = ascii_chars lang_string refl

-- where a form denotes something, and the call does not refuse it
pub taken : {T : Type 0} (r : Result T LiteralFault) (D : LiteralParts → Type 0) (literal : LiteralParts) → D literal → (IsErrOf r BadLiteral → ⊥) → IsErrOf r BadLiteral ↔ ((other : LiteralParts) → D other → ⊥)
taken r D literal d n = (λ bad. absurd (n bad), λ none. absurd (none literal d))

-- where a form denotes nothing
pub refused : {T : Type 0} (D : LiteralParts → Type 0) → ((other : LiteralParts) → D other → ⊥) → IsErrOf {T = T} {E = LiteralFault} (Err BadLiteral) BadLiteral ↔ ((other : LiteralParts) → D other → ⊥)
refused D none = (λ _. none, λ _. refl)

-- what is refused is the same where the two denote the same
pub alike : {T : Type 0} (r : Result T LiteralFault) (C D : LiteralParts → Type 0) → ((literal : LiteralParts) → C literal ↔ D literal) → IsErrOf r BadLiteral ↔ ((other : LiteralParts) → C other → ⊥) → IsErrOf r BadLiteral ↔ ((other : LiteralParts) → D other → ⊥)
alike r C D same h = (λ bad other d. h.0 bad other ((same other).1 d), λ none. h.1 (λ other c. none other ((same other).0 c)))

pub given : {E : Type 0} (r : Result LiteralParts E) (C D : LiteralParts → Type 0) → ((literal : LiteralParts) → C literal → D literal) → IfOk r C → IfOk r D
given (Ok literal) C D to h = to literal h
given (Err e) C D to h = tt

pub parts_of_tag : (text tag : List ℕ) → IsLanguageTag tag → PlainParts text tag (with_tag text tag)
parts_of_tag text [] h = absurd h.0
parts_of_tag text (c ∷ cs) h = (h, refl)

pub no_parts : (text rest : List ℕ) → 0 < length rest → (IsLanguageTag rest → ⊥) → (literal : LiteralParts) → PlainParts text rest literal → ⊥
no_parts text [] some no_tag literal h = omega arith
no_parts text (c ∷ cs) some no_tag literal h = no_tag h.0

-- a form of rdf:PlainLiteral, and one of any other datatype that has forms
pub typed_plain : (form datatype : List ℕ) → datatype ≡ plain_literal → (literal : LiteralParts) → PlainForm form literal ↔ DenotesTyped form datatype literal
typed_plain form datatype e literal = (λ f. inl (e, f), λ t. elim t [ inl x ↦ x.1 | inr x ↦ absurd (x.0 e) ])

-- with a datatype there is no tag
pub without_tag : (form datatype : List ℕ) (tag : Option (Bor (List ℕ))) → IsNone tag → (literal : LiteralParts) → DenotesTyped form datatype literal ↔ DenotesLiteral form (Some datatype) (option_map (λ t. chars t.now) tag) literal
without_tag form datatype None h literal = (λ d. d, λ d. d)
without_tag form datatype (Some tag) h literal = absurd (cc)

pub one_of_two : {X Y : Type 0} (o : Option X) (x : X) (p : Option Y) → IsNone o ⊎ IsNone p → o ≡ Some x → IsNone p
one_of_two None x p h e = absurd (cc)
one_of_two (Some y) x p (inl h) e = absurd (cc)
one_of_two (Some y) x p (inr h) e = h

-- a form without a datatype denotes something
pub without_datatype : (form : List ℕ) (tag : Option (List ℕ)) → (literal : LiteralParts) × DenotesLiteral form None tag literal
without_datatype form None = (of_datatype form string, refl)
without_datatype form (Some tag) = (with_tag form tag, refl)
