-- What it is for a triple to carry a word.
use Rattle.std.specs.Prelude.{◌≡◌, ◌↔◌, ℕ, Bool, true, false, not, ◌&&◌, ◌||◌, List, Option, None, Some}
use Rattle.std.specs.Bool.{one_answer}
use Rattle.std.specs.Str.{bytes_eq}
use Rattle.std.proofs.Common.{inl, inr, refl, sym, ap, ◌∙◌, subst}
use Rattle.std.proofs.lemmas.Bool.{and_from, and_parts, both_ways, cases_Bool, cond-false, cond-true, eq-eqb}
use Rattle.std.proofs.lemmas.Slice.Eq.{bytes_eq-Decides}
use Rattle.rdf_graph.specs.declared.term.Term.{Term}
use Rattle.rdf_graph.specs.declared.term.Term.TheVariants.{Iri}
use Rattle.rdf_graph.specs.declared.triple.Triple.{Triple}
use Rattle.rdf_meaning.specs.declared.word.Word.{Word}
use Rattle.rdf_meaning.specs.declared.word.Word.TheVariants as word
use Rattle.rdf_meaning.specs.Nodes.{carries, is_same, is_word, says_type, type_iri}
use Rattle.rdf_meaning.proofs.NodeLaws.{one_word, same_iri_term, own_term, same_term}
use Rattle.rdf_meaning.proofs.WordLaws.{same_word}
use Rattle.rdf_meaning.specs.Words.{is_type, word_iri, word_number}
use Rattle.rdf_rows.specs.Carrying.{is_the, may_have}

pub by_class : (w : Word) (t : Triple) → is_type w ≡ true → carries w t ≡ says_type (word_iri w) t
unfolding carries
by_class w t type = cond-true (is_type w) _ _ type

pub by_link : (w : Word) (t : Triple) → is_type w ≡ false → carries w t ≡ (bytes_eq t.predicate (word_iri w) && may_have w t.object)
unfolding carries may_have
by_link w t link = cond-false (is_type w) _ _ link

-- an IRI as a term
pub same_class : (x : Term) (iri : List ℕ) → (is_same x (Iri iri) ≡ true) ↔ (x ≡ Iri iri)
same_class x iri = (same_term x (Iri iri), λ e. ap (λ y. is_same y (Iri iri)) e ∙ own_term (Iri iri))

pub iri_is : (a b : List ℕ) → bytes_eq a b ≡ is_same (Iri a) (Iri b)
iri_is a b = one_answer (bytes_eq a b) (is_same (Iri a) (Iri b)) (bytes_eq-Decides a b) (λ h. same_iri_term a b ((same_class (Iri a) b).0 h), λ e. (same_class (Iri a) b).1 (ap Iri e))

-- no predicate is rdf:type
sample : List ℕ → Triple
sample class = record { subject = Iri class; predicate = type_iri; object = Iri class }

carries_class : carries word.Class (sample (word_iri word.Class)) ≡ true
unfolding sample carries is_type
carries_class =
    let class = word_iri word.Class in
    and_from (bytes_eq type_iri type_iri) (is_same (Iri class) (Iri class)) ((bytes_eq-Decides type_iri type_iri).1 refl) (own_term (Iri class))

carries_type : (w : Word) → is_type w ≡ false → word_iri w ≡ type_iri → carries w (sample (word_iri word.Class)) ≡ true
unfolding sample may_have
carries_type w link e =
    let class = word_iri word.Class in
    by_link w (sample class) link
    ∙ and_from (bytes_eq type_iri (word_iri w)) (may_have w (Iri class)) ((bytes_eq-Decides type_iri (word_iri w)).1 (sym e)) (or_true (not (is_word w word.InverseOf)))
  where
    or_true : (b : Bool) → (b || true) ≡ true
    or_true true = refl
    or_true false = refl

class_is_type : is_type word.Class ≡ true
unfolding is_type
class_is_type = refl

pub no_type : (w : Word) → is_type w ≡ false → word_iri w ≡ type_iri → ⊥
no_type w link e =
    let same = one_word word.Class w (sample (word_iri word.Class)) carries_class (carries_type w link e) in
    both_ways (is_type w) link (ap is_type (sym same) ∙ class_is_type)

-- a triple of rdf:type carries the word that is its class, and another the word that is its predicate
pub of_type : (w : Word) (t : Triple) → t.predicate ≡ type_iri → (carries w t ≡ true) ↔ ((is_type w ≡ true) × (t.object ≡ Iri (word_iri w)))
of_type w t p = (
  λ h. elim (cases_Bool (is_type w)) [
    | inl type ↦ (type, (same_class t.object (word_iri w)).0 (and_parts (bytes_eq t.predicate type_iri) _ (sym (by_class w t type) ∙ h)).1)
    | inr link ↦
        let same = (bytes_eq-Decides t.predicate (word_iri w)).0 (and_parts (bytes_eq t.predicate (word_iri w)) (may_have w t.object) (sym (by_link w t link) ∙ h)).0 in
        absurd (no_type w link (sym same ∙ p))
  ],
  λ h. by_class w t h.0
      ∙ and_from (bytes_eq t.predicate type_iri) (is_same t.object (Iri (word_iri w))) ((bytes_eq-Decides t.predicate type_iri).1 p) ((same_class t.object (word_iri w)).1 h.1),
)

pub of_link : (w : Word) (t : Triple) → (t.predicate ≡ type_iri → ⊥) → (carries w t ≡ true) ↔ ((is_type w ≡ false) × (carries w t ≡ true))
of_link w t n = (
  λ h. elim (cases_Bool (is_type w)) [
    | inl type ↦ absurd (n ((bytes_eq-Decides t.predicate type_iri).0 (and_parts (bytes_eq t.predicate type_iri) _ (sym (by_class w t type) ∙ h)).0))
    | inr link ↦ (link, h)
  ],
  λ h. h.1,
)

-- what is known of the word that a triple carries tells of each word whether the triple carries it

pub own_word : (w : Word) → is_word w w ≡ true
own_word w = eq-eqb (word_number w) (word_number w) refl

pub the_word : (o : Option Word) (w : Word) → (is_the o w ≡ true) ↔ (o ≡ Some w)
the_word None w = (λ h. cc, λ e. cc)
the_word (Some v) w = (λ h. ap Some (sym (same_word w v h)), λ e. let same : v ≡ w = cc in subst (λ u. is_word w u ≡ true) (sym same) (own_word w))

pub told_by : (t : Triple) (o : Option Word) → ((w : Word) → (carries w t ≡ true) ↔ (o ≡ Some w)) → (w : Word) → carries w t ≡ is_the o w
told_by t o h w = one_answer (carries w t) (is_the o w) (h w) (the_word o w)
