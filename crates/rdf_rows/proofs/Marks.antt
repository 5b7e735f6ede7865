-- Which role a triple is a mark of is told by its word, or by its predicate where it carries none.
use lib.Utf8.{encode}
use Rattle.std.specs.Prelude.{◌≡◌, ◌↔◌, Bool, true, false, ◌&&◌, ◌||◌, List, [], ◌∷◌, Option, None, Some}
use Rattle.std.specs.List.{list_any}
use Rattle.std.specs.Str.{bytes_eq}
use Rattle.std.proofs.Common.{inl, inr, refl, sym, ap, ◌∙◌, subst}
use Rattle.std.proofs.lemmas.Bool.{and_parts, cases_Bool}
use Rattle.std.proofs.lemmas.Slice.Eq.{bytes_eq-Decides}
use Rattle.rdf_graph.specs.declared.triple.Triple.{Triple}
use Rattle.rdf_meaning.specs.declared.role.Role.{Role}
use Rattle.rdf_meaning.specs.declared.role.Role.TheVariants as role
use Rattle.rdf_meaning.specs.declared.word.Word.{Word}
use Rattle.rdf_meaning.specs.declared.word.Word.TheVariants as word
use Rattle.rdf_meaning.specs.Nodes.{carries, carries_some, is_facet, is_own, is_role, is_word, marks_role, type_iri, words_of}
use Rattle.rdf_meaning.proofs.RowLaws.{own_role, same_role}
use Rattle.rdf_meaning.specs.Words.{is_type, word_iri, word_number}
use Rattle.rdf_rows.specs.Carrying.{is_the, may_have}
use Rattle.rdf_rows.proofs.CarryingLaws.{by_class, by_link, own_word, told_by}
use Rattle.rdf_rows.specs.Roles.{is_the_role, marks, role_marked, told_role}

pub or_false : (b : Bool) → (b || false) ≡ b
or_false true = refl
or_false false = refl

-- a mark of a role carries one of its words, or has the predicate of a facet
by_words : (r : Role) (t : Triple) → marks_role r t ≡ (carries_some (marks r) t || (is_role r role.Facet && is_facet t.predicate))
unfolding marks_role
by_words role.List t = sym (or_false (carries_some (marks role.List) t))
by_words role.Property t = sym (or_false (carries word.InverseOf t)) ∙ sym (or_false (carries word.InverseOf t || false))
by_words role.Class t = sym (or_false (carries_some (marks role.Class) t))
by_words role.Range t = sym (or_false (carries word.Datatype t)) ∙ sym (or_false (carries word.Datatype t || false))
by_words role.Facet t = refl
by_words role.Main t = sym (or_false (carries_some (marks role.Main) t))
by_words role.Note t = sym (or_false (carries_some (marks role.Note) t))
by_words role.Header t = sym (or_false (carries word.Ontology t)) ∙ sym (or_false (carries word.Ontology t || false))
by_words role.Individual t = refl

-- a triple with a word has no predicate of a facet
plain : (w : Word) → is_facet (word_iri w) ≡ false
unfolding word_iri is_facet encode
plain word.Class = refl
plain _ = refl

plain_type : is_facet type_iri ≡ false
unfolding is_facet encode
plain_type = refl

no_facet : (w : Word) (t : Triple) → carries w t ≡ true → is_facet t.predicate ≡ false
no_facet w t h =
    elim (cases_Bool (is_type w)) [
      | inl type ↦ ap is_facet ((bytes_eq-Decides t.predicate type_iri).0 (and_parts (bytes_eq t.predicate type_iri) _ (sym (by_class w t type) ∙ h)).0) ∙ plain_type
      | inr link ↦
          ap is_facet ((bytes_eq-Decides t.predicate (word_iri w)).0 (and_parts (bytes_eq t.predicate (word_iri w)) (may_have w t.object) (sym (by_link w t link) ∙ h)).0)
          ∙ plain w
    ]

by_table : (r : Role) (w : Word) → (list_any (λ v. is_word v w) (marks r) || (is_role r role.Facet && false)) ≡ is_the_role (role_marked w) r
unfolding role_marked word_number
by_table role.List word.Class = refl
by_table role.List _ = refl
by_table role.Property word.Class = refl
by_table role.Property _ = refl
by_table role.Class word.Class = refl
by_table role.Class _ = refl
by_table role.Range word.Class = refl
by_table role.Range _ = refl
by_table role.Facet word.Class = refl
by_table role.Facet _ = refl
by_table role.Main word.Class = refl
by_table role.Main _ = refl
by_table role.Note word.Class = refl
by_table role.Note _ = refl
by_table role.Header word.Class = refl
by_table role.Header _ = refl
by_table role.Individual word.Class = refl
by_table role.Individual _ = refl

without : (r : Role) (facet : Bool) → (list_any (λ (v : Word). false) (marks r) || (is_role r role.Facet && facet)) ≡ is_the_role (told_role None facet) r
without role.List true = refl
without role.List false = refl
without role.Property true = refl
without role.Property false = refl
without role.Class true = refl
without role.Class false = refl
without role.Range true = refl
without role.Range false = refl
without role.Facet true = refl
without role.Facet false = refl
without role.Main true = refl
without role.Main false = refl
without role.Note true = refl
without role.Note false = refl
without role.Header true = refl
without role.Header false = refl
without role.Individual true = refl
without role.Individual false = refl

told : (o : Option Word) (t : Triple) → ((w : Word) → carries w t ≡ is_the o w) → (r : Role) →
    (list_any (λ v. is_the o v) (marks r) || (is_role r role.Facet && is_facet t.predicate)) ≡ is_the_role (told_role o (is_facet t.predicate)) r
told None t h r = without r (is_facet t.predicate)
told (Some w) t h r =
    ap (λ b. list_any (λ v. is_word v w) (marks r) || (is_role r role.Facet && b)) (no_facet w t (h w ∙ own_word w)) ∙ by_table r w

pub the_role : (o : Option Role) (r : Role) → (is_the_role o r ≡ true) ↔ (o ≡ Some r)
the_role None r = (λ h. cc, λ e. cc)
the_role (Some q) r = (λ h. ap Some (same_role q r h), λ e. let same : q ≡ r = cc in subst (λ p. is_role q p ≡ true) same (own_role q))

-- what is known of the word that a triple carries
module _ (t : Triple) (o : Option Word) (carried : (w : Word) → (carries w t ≡ true) ↔ (o ≡ Some w)) where
  some_carried : (words : List Word) → carries_some words t ≡ list_any (λ v. is_the o v) words
  some_carried words = λ i. list_any (λ v. told_by t o carried v i) words

  pub marked_by : (r : Role) → marks_role r t ≡ is_the_role (told_role o (is_facet t.predicate)) r
  marked_by r =
      by_words r t ∙ ap (λ b. b || (is_role r role.Facet && is_facet t.predicate)) (some_carried (marks r)) ∙ told o t (told_by t o carried) r

  pub is_marked : (r : Role) → (marks_role r t ≡ true) ↔ (told_role o (is_facet t.predicate) ≡ Some r)
  is_marked r = (λ h. (the_role _ r).0 (sym (marked_by r) ∙ h), λ e. marked_by r ∙ (the_role (told_role o (is_facet t.predicate)) r).1 e)

  pub owned_by : (r : Role) → (r ≡ role.Facet → ⊥) → is_own r t ≡ list_any (λ v. is_the o v) (words_of r)
  owned_by role.Facet n = absurd (n refl)
  owned_by role.List n = some_carried (words_of role.List)
  owned_by role.Property n = some_carried (words_of role.Property)
  owned_by role.Class n = some_carried (words_of role.Class)
  owned_by role.Range n = some_carried (words_of role.Range)
  owned_by role.Main n = some_carried (words_of role.Main)
  owned_by role.Note n = some_carried (words_of role.Note)
  owned_by role.Header n = some_carried (words_of role.Header)
  owned_by role.Individual n = some_carried (words_of role.Individual)

pub none_of : (words : List Word) → list_any (λ (v : Word). false) words ≡ false
none_of [] = refl
none_of (w ∷ words) = none_of words
