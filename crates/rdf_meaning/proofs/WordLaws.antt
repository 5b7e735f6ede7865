-- Words are told apart by their numbers, and classes and predicates by their IRIs, by which they are found.
use lib.Utf8.{encode}
use Rattle.std.proofs.Common.{◌≡◌, ℕ, Bool, true, false, List, [], ◌∷◌, ◌++◌, Option, None, Some, inl, inr, refl, sym, ap, ◌∙◌, subst, nat_eq}
use Rattle.std.specs.Prelude.{codes}
use Rattle.std.specs.Bool.{beq}
use Rattle.std.specs.List.{find, list_all, starts_with}
use Rattle.std.specs.Str.{bytes_eq, encode_utf8_all}
use Rattle.std.proofs.lemmas.Bool.{and_parts, cases_Bool, cond-false, cond-true, eqb-true}
use Rattle.std.proofs.lemmas.Option.{same_Some}
use Rattle.std.proofs.lemmas.Slice.Eq.{bytes_eq-Decides}
use Rattle.owl_characters.proofs.AsciiLaws.{ascii_bytes, from_bytes}
use Rattle.owl_characters.specs.Iri.{is_ascii}
use Rattle.rdf_meaning.specs.declared.word.Word.{Word}
use Rattle.rdf_meaning.specs.declared.word.Word.TheVariants.{Class}
use Rattle.rdf_meaning.specs.declared.words.TheConstants.{CLASSES, PREDICATES}
use Rattle.rdf_meaning.specs.Nodes.{is_word}
use Rattle.rdf_meaning.specs.WordIris.{IsWordOf, word_in}
use Rattle.rdf_meaning.specs.Words.{is_type, word_iri, word_number}

abbrev words_as : Bool → List Word
words_as true = CLASSES
words_as false = PREDICATES

-- a word is found by its number
numbered : (w : Word) → find (λ v. is_word v w) (CLASSES ++ PREDICATES) ≡ Some w
unfolding word_number
numbered Class = refl
numbered _ = refl

pub same_number : (a b : Word) → word_number a ≡ word_number b → a ≡ b
same_number a b e =
    let is = sym (numbered a) ∙ ap (λ n. find (λ v. nat_eq (word_number v) n) (CLASSES ++ PREDICATES)) e ∙ numbered b in
    same_Some a b is

pub same_word : (a b : Word) → is_word a b ≡ true → a ≡ b
same_word a b h = same_number a b (eqb-true (word_number a) (word_number b) h)

-- a class is found among the classes by its IRI, and a predicate among the predicates
found : (w : Word) → word_in (words_as (is_type w)) (word_iri w) ≡ Some w
unfolding is_type word_iri word_in encode
found Class = refl
found _ = refl

-- two types, or two predicates, of one IRI are one word
pub same_iri : (a b : Word) → is_type a ≡ is_type b → word_iri a ≡ word_iri b → a ≡ b
same_iri a b t e = same_Some a b (sym (found a) ∙ (λ i. word_in (words_as (t i)) (e i)) ∙ found b)

abbrev is_of : Bool → Word → Bool
is_of type w = beq (is_type w) type

sorted : (type : Bool) → list_all (is_of type) (words_as type) ≡ true
unfolding is_type
sorted true = refl
sorted false = refl

pub all_ascii : (w : Word) → list_all is_ascii (word_iri w) ≡ true
unfolding word_iri
all_ascii Class = refl
all_ascii _ = refl

-- what is found passes the test, and what all elements pass
record Found {X : Type 0} (test others : X → Bool) (x : X) : Type 0 where
  pub passes : test x ≡ true
  pub sort : others x ≡ true

found_passes : {X : Type 0} (test others : X → Bool) (xs : List X) (x : X) → list_all others xs ≡ true → find test xs ≡ Some x → Found test others x
found_passes test others [] x all e = cc
found_passes test others (y ∷ xs) x all e =
    let both = and_parts (others y) (list_all others xs) all in
    elim (cases_Bool (test y)) [
      | inl t ↦
          let is : y ≡ x = same_Some y x (sym (cond-true (test y) (Some y) (find test xs) t) ∙ e) in
          record { passes = subst (λ z. test z ≡ true) is t; sort = subst (λ z. others z ≡ true) is both.0 }
      | inr f ↦ found_passes test others xs x both.1 (sym (cond-false (test y) (Some y) (find test xs) f) ∙ e)
    ]

among : (words : List Word) (text : List ℕ) (w : Word) → word_in words text ≡ Some w → find (λ v. bytes_eq (word_iri v) text) words ≡ Some w
unfolding word_in
among words text w e =
    let test = starts_with nat_eq text (codes "http://www.w3.org/") in
    elim (cases_Bool test) [
      | inl t ↦ sym (cond-true test _ None t) ∙ e
      | inr f ↦ let none = sym (cond-false test (find (λ v. bytes_eq (word_iri v) text) words) None f) ∙ e in cc
    ]

beq-true : (a b : Bool) → beq a b ≡ true → a ≡ b
beq-true true true h = refl
beq-true true false h = cc
beq-true false true h = cc
beq-true false false h = refl

module _ (type : Bool) (iri text : List ℕ) (bytes : text ≡ encode_utf8_all iri) (result : Option Word) (is : result ≡ word_in (words_as type) text) where
  to_word : (w : Word) → is_type w ≡ type → word_iri w ≡ iri → result ≡ Some w
  to_word w t e =
      let same : text ≡ word_iri w = bytes ∙ ap encode_utf8_all (sym e) ∙ ascii_bytes (word_iri w) (all_ascii w) in
      is ∙ ap (word_in (words_as type)) same ∙ subst (λ b. word_in (words_as b) (word_iri w) ≡ Some w) t (found w)

  from_word : (w : Word) → result ≡ Some w → (is_type w ≡ type) × (word_iri w ≡ iri)
  from_word w e =
      let f = found_passes (λ v. bytes_eq (word_iri v) text) (is_of type) (words_as type) w (sorted type) (among (words_as type) text w (sym is ∙ e)) in
      let same : word_iri w ≡ text = (bytes_eq-Decides (word_iri w) text).0 f.passes in
      (beq-true (is_type w) type f.sort, sym (from_bytes (word_iri w) iri (all_ascii w) (same ∙ bytes)))

  pub is_word_of : IsWordOf type iri result
  is_word_of w = (λ h. to_word w h.0 h.1, from_word w)
