-- A form, with its datatype or its language tag, denotes one literal at most.
use Rattle.std.proofs.Common.{◌≡◌, inl, inr, ℕ, Bool, true, false, not, cond, ◌&&◌, List, [], ◌∷◌, ◌++◌, None, Option, Some, refl, sym, ap, ◌∙◌, subst}
use Rattle.std.specs.Prelude.{◌==◌}
use Rattle.std.specs.Char.{is_ascii_alphabetic, is_ascii_alphanumeric}
use Rattle.std.proofs.lemmas.Bool.{and_parts, cases_Bool, eqb-true, true≢false}
use Rattle.rdf_terms.specs.Literals.{DenotesLiteral, DenotesTyped, LiteralParts, PlainForm, PlainParts}
use Rattle.owl_characters.proofs.CutLaws.{SameCut, found}
use Rattle.owl_characters.specs.Iri.{AllAre}
use Rattle.owl_characters.proofs.LanguageTagLaws.{tag_to_fits}
use Rattle.owl_characters.specs.Names.{is_hyphen}
use Rattle.owl_characters.specs.Subtags.{tag_fits}

-- lists that are cut at the last character that fails are cut alike
pub same_last_cut : (p : ℕ → Bool) (xs ys : List ℕ) (c : ℕ) (a b : List ℕ) → AllAre p a → AllAre p b → p c ≡ false → xs ++ c ∷ a ≡ ys ++ c ∷ b → SameCut xs ys c c a b
same_last_cut p [] [] c a b h k f e = record { front = refl; fails = refl; rest = cc }
same_last_cut p [] (y ∷ ys) c a b h k f e = absurd (found p ys c b a h f (cc))
same_last_cut p (x ∷ xs) [] c a b h k f e = absurd (found p xs c a b k f (cc))
same_last_cut p (x ∷ xs) (y ∷ ys) c a b h k f e =
    let it = same_last_cut p xs ys c a b h k f (cc) in
    let first : x ≡ y = cc in
    record { front = cc; fails = refl; rest = it.rest }

-- ---- no language tag has an `@`

abbrev pub is_other : ℕ → Bool
is_other c = not (c == 64)

others_pass : (test : ℕ → Bool) → test 64 ≡ false → (c : ℕ) → test c ≡ true → is_other c ≡ true
others_pass test e c h = elim (cases_Bool (c == 64)) [
  | inl same ↦ absurd (true≢false (sym h ∙ ap test (eqb-true c 64 same) ∙ e))
  | inr differs ↦ ap not differs
]

-- one character of a tag, and those behind it
fits_step : (test : ℕ → Bool) (some behind : Bool) (c : ℕ) (cs : List ℕ) (hyphen : Bool) → test 64 ≡ false → (behind ≡ true → AllAre is_other cs) → (tag_fits test true cs ≡ true → AllAre is_other cs) → is_hyphen c ≡ hyphen → cond hyphen (some && behind) (test c && tag_fits test true cs) ≡ true → AllAre is_other (c ∷ cs)
fits_step test some behind c cs true e there here is h =
    (others_pass is_hyphen refl c is, there (and_parts some behind h).1)
fits_step test some behind c cs false e there here is h =
    let both = and_parts (test c) (tag_fits test true cs) h in
    (others_pass test e c both.0, here both.1)

fits_pass : (test : ℕ → Bool) (some : Bool) (cs : List ℕ) → test 64 ≡ false → tag_fits test some cs ≡ true → AllAre is_other cs
fits_pass test some [] e h = tt
fits_pass test some (c ∷ cs) e h =
    fits_step test some (tag_fits is_ascii_alphanumeric false cs) c cs (is_hyphen c) e
    (fits_pass is_ascii_alphanumeric false cs refl) (fits_pass test true cs e) refl h

-- ---- plain forms

pub rest_passes : (text rest : List ℕ) (literal : LiteralParts) → PlainParts text rest literal → AllAre is_other rest
rest_passes text [] literal h = tt
rest_passes text (c ∷ cs) literal h = fits_pass is_ascii_alphabetic false (c ∷ cs) refl (tag_to_fits (c ∷ cs) h.0)

one_of_parts : (text rest : List ℕ) (a b : LiteralParts) → PlainParts text rest a → PlainParts text rest b → a ≡ b
one_of_parts text [] a b h k = h ∙ sym k
one_of_parts text (c ∷ cs) a b h k = h.1 ∙ sym k.1

one_of_form : (form : List ℕ) (a b : LiteralParts) → PlainForm form a → PlainForm form b → a ≡ b
one_of_form form a b f g =
    let same = same_last_cut is_other f.text g.text 64 f.rest g.rest
    (rest_passes f.text f.rest a f.denotes) (rest_passes g.text g.rest b g.denotes) refl (sym f.parts ∙ g.parts) in
    one_of_parts g.text g.rest a b
    (subst (λ l. PlainParts l g.rest a) same.front (subst (λ l. PlainParts f.text l a) same.rest f.denotes)) g.denotes

pub one_typed : (form datatype : List ℕ) (a b : LiteralParts) → DenotesTyped form datatype a → DenotesTyped form datatype b → a ≡ b
one_typed form datatype a b (inl h) (inl k) = one_of_form form a b h.1 k.1
one_typed form datatype a b (inl h) (inr k) = absurd (k.0 h.0)
one_typed form datatype a b (inr h) (inl k) = absurd (h.0 k.0)
one_typed form datatype a b (inr h) (inr k) = h.2 ∙ sym k.2

pub one_denoted : (form : List ℕ) (datatype tag : Option (List ℕ)) (a b : LiteralParts) → DenotesLiteral form datatype tag a → DenotesLiteral form datatype tag b → a ≡ b
one_denoted form None None a b h k = h ∙ sym k
one_denoted form None (Some tag) a b h k = h ∙ sym k
one_denoted form (Some datatype) None a b h k = one_typed form datatype a b h k
one_denoted form (Some datatype) (Some tag) a b h k = absurd h
