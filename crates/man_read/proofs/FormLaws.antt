-- What is written for tokens says what they hold.
use Rattle.std.proofs.Common.{◌≡◌, ℕ, Bool, true, false, ◌||◌, List, [], ◌∷◌, Option, None, Some, refl, ap, ◌∙◌}
use Rattle.std.specs.Prelude.{IfSome, codes, flat_map, map}
use Rattle.std.specs.Char.{is_ascii_digit}
use Rattle.std.specs.List.{AllByRecursion}
use Rattle.owl_characters.proofs.NameCharacterLaws.{local_fits}
use Rattle.owl_characters.specs.Iri.{AllAre, is_among}
use Rattle.owl_characters.specs.Names.{IsNameFrom, IsPieceOf, Piece, SpellsLocal, ends_in_dot, ends_in_plain_dot, is_inner, is_local_inner, is_local_start, is_part, is_start, piece_spelling, piece_text, plain}
use Rattle.owl_lexer.specs.declared.placed.Placed.{Placed}
use Rattle.owl_tokens.specs.ManchesterSpellings.{SpellsManchester}
use Rattle.owl_tokens.specs.declared.token.Token.{Token}
use Rattle.owl_tokens.specs.declared.token.Token.TheVariants.{Iri, Name, Blank, Str, At, Word, Int, Dec, Sign}
use Rattle.man_read.specs.Forms.{ComesFormed, IsFormed}

-- ---- a word is a local part that is written as it is

abbrev plains : List ℕ → List Piece
plains cs = map plain cs

texts_are : (cs : List ℕ) → cs ≡ flat_map piece_text (plains cs)
texts_are [] = refl
texts_are (c ∷ cs) = ap (λ (l : List ℕ). c ∷ l) (texts_are cs)

spellings_are : (cs : List ℕ) → cs ≡ flat_map piece_spelling (plains cs)
spellings_are [] = refl
spellings_are (c ∷ cs) = ap (λ (l : List ℕ). c ∷ l) (spellings_are cs)

dots_are : (cs : List ℕ) → ends_in_plain_dot (plains cs) ≡ ends_in_dot cs
dots_are [] = refl
dots_are (c ∷ []) = refl
dots_are (c ∷ d ∷ cs) = dots_are (d ∷ cs)

or_with : (x y z : Bool) → (y ≡ true → z ≡ true) → (x || y) ≡ true → (x || z) ≡ true
or_with true y z f e = refl
or_with false y z f e = f e

first_only : (x y : Bool) → (x || false) ≡ true → (x || y) ≡ true
first_only true y e = refl
first_only false y e = absurd (cc)

inner_fits : (c : ℕ) → is_inner c ≡ true → is_local_inner c ≡ true
inner_fits c e = or_with (is_part c) (is_among (codes ".") c) (is_among (codes ".:") c) (λ dot. first_only _ _ dot) e

inners_fit : (cs : List ℕ) → AllAre is_inner cs → AllByRecursion (IsPieceOf is_local_inner) (plains cs)
inners_fit [] h = tt
inners_fit (c ∷ cs) h = (inner_fits c h.0, inners_fit cs h.1)

start_fits : (c : ℕ) → is_start c ≡ true → is_local_start c ≡ true
start_fits c e = ap (λ (b : Bool). b || is_ascii_digit c || is_among (codes ":") c) e

word_is_local : (word : List ℕ) → IsNameFrom is_start word → SpellsLocal word word
word_is_local [] h = absurd h
word_is_local (c ∷ cs) h = record {
  pieces = plains (c ∷ cs);
  pieces_fit = (start_fits c h.0, inners_fit cs h.1, dots_are (c ∷ cs) ∙ h.2);
  spelled = spellings_are (c ∷ cs);
  stands_for = texts_are (c ∷ cs);
}

-- ---- tokens

spelled_is_formed : (t : Token) (cs : List ℕ) → SpellsManchester t cs → IsFormed t
spelled_is_formed (Iri iri) cs h = h.0
spelled_is_formed (Name prefix local) cs h = (h.1, local_fits h.0 local h.2)
spelled_is_formed (Blank label) cs h = h.0
spelled_is_formed (Str text) cs h = tt
spelled_is_formed (At tag) cs h = h.0
spelled_is_formed (Word word) cs h = local_fits word word (word_is_local word h.0)
spelled_is_formed (Int number) cs h = h.0
spelled_is_formed (Dec number) cs h = tt
spelled_is_formed (Sign mark) cs h = tt

pub next_formed : (next : Option (Placed Token)) → IfSome next (λ p. (spelling : List ℕ) × SpellsManchester p.token spelling) → ComesFormed next
next_formed None h = tt
next_formed (Some p) h = spelled_is_formed p.token h.0 h.1
