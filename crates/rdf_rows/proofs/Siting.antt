-- The word that is a class, or a predicate, tells which rows may say the triple.
use Rattle.std.specs.Prelude.{◌≡◌, ◌↔◌, Bool, true, false, not, cond, List, [], ◌∷◌, Option, None, Some}
use Rattle.std.specs.Bool.{one_answer}
use Rattle.std.specs.List.{filter, list_all}
use Rattle.std.specs.Str.{bytes_eq}
use Rattle.std.proofs.Common.{refl, sym, ap, ◌∙◌}
use Rattle.std.proofs.lemmas.Bool.{and_from, and_parts, cond-false, cond-true, not-true}
use Rattle.std.proofs.lemmas.Slice.Eq.{bytes_eq-Decides}
use Rattle.rdf_graph.specs.declared.term.Term.TheVariants.{Iri}
use Rattle.rdf_graph.specs.declared.triple.Triple.{Triple}
use Rattle.rdf_meaning.specs.declared.row.Site.TheVariants.{TypedBy, OtherType, LinkedBy, OtherLink}
use Rattle.rdf_meaning.specs.declared.word.Word.{Word}
use Rattle.rdf_meaning.specs.declared.word.Word.TheVariants as word
use Rattle.rdf_meaning.specs.Denotation.{axiom_predicates, axiom_types, first_of, site_of}
use Rattle.rdf_meaning.specs.Nodes.{is_same, says_type, type_iri}
use Rattle.rdf_meaning.specs.Words.{is_type, word_iri, word_number}
use Rattle.rdf_rows.specs.Carrying.{is_the}
use Rattle.rdf_rows.proofs.CarryingLaws.{same_class, the_word}
use Rattle.rdf_rows.specs.Sites.{linked_site, typed_site}
use Rattle.rdf_meaning.specs.WordIris.{IsWordOf}

same_kept : {X : Type 0} (f g sort : X → Bool) → ((x : X) → sort x ≡ true → f x ≡ g x) → (xs : List X) → list_all sort xs ≡ true → filter f xs ≡ filter g xs
same_kept f g sort same [] h = refl
same_kept f g sort same (x ∷ xs) h =
    let parts = and_parts (sort x) (list_all sort xs) h in
    let rest = same_kept f g sort same xs parts.1 in
    let head = same x parts.0 in
    λ i. cond (head i) (x ∷ rest i) (rest i)

all_types : list_all is_type axiom_types ≡ true
unfolding is_type axiom_types
all_types = refl

all_predicates : list_all (λ w. not (is_type w)) axiom_predicates ≡ true
unfolding is_type axiom_predicates
all_predicates = refl

by_types : (o : Option Word) → first_of TypedBy OtherType (filter (is_the o) axiom_types) ≡ typed_site o
unfolding axiom_types word_number
by_types None = refl
by_types (Some word.Class) = refl
by_types (Some _) = refl

by_predicates : (o : Option Word) → first_of LinkedBy OtherLink (filter (is_the o) axiom_predicates) ≡ linked_site o
unfolding axiom_predicates word_number
by_predicates None = refl
by_predicates (Some word.Class) = refl
by_predicates (Some _) = refl

module _ (t : Triple) (o : Option Word) where
  pub typed : t.predicate ≡ type_iri → ((w : Word) → ((is_type w ≡ true) × (t.object ≡ Iri (word_iri w))) ↔ (o ≡ Some w)) → typed_site o ≡ site_of t
  unfolding site_of
  typed p named =
      let is = (bytes_eq-Decides t.predicate type_iri).1 p in
      let says : (w : Word) → is_type w ≡ true → says_type (word_iri w) t ≡ is_the o w =
      λ w type. one_answer (says_type (word_iri w) t) (is_the o w) (
        λ h. (named w).0 (type, (same_class t.object (word_iri w)).0 (and_parts (bytes_eq t.predicate type_iri) (is_same t.object (Iri (word_iri w))) h).1),
        λ e. and_from (bytes_eq t.predicate type_iri) (is_same t.object (Iri (word_iri w))) is ((same_class t.object (word_iri w)).1 ((named w).1 e).1),
      )
      (the_word o w)
      in
      sym (cond-true (bytes_eq t.predicate type_iri) _ _ is ∙ ap (first_of TypedBy OtherType) (same_kept (λ w. says_type (word_iri w) t) (is_the o) is_type says axiom_types all_types) ∙ by_types o)

  pub linked : bytes_eq t.predicate type_iri ≡ false → IsWordOf false t.predicate o → linked_site o ≡ site_of t
  unfolding site_of
  linked other named =
      let is : (w : Word) → not (is_type w) ≡ true → bytes_eq t.predicate (word_iri w) ≡ is_the o w =
      λ w link. one_answer (bytes_eq t.predicate (word_iri w)) (is_the o w) (
        λ h. (named w).0 (not-true (is_type w) link, sym ((bytes_eq-Decides t.predicate (word_iri w)).0 h)),
        λ e. (bytes_eq-Decides t.predicate (word_iri w)).1 (sym ((named w).1 e).1),
      )
      (the_word o w)
      in
      sym (cond-false (bytes_eq t.predicate type_iri) _ _ other ∙ ap (first_of LinkedBy OtherLink) (same_kept (λ w. bytes_eq t.predicate (word_iri w)) (is_the o) (λ w. not (is_type w)) is axiom_predicates all_predicates) ∙ by_predicates o)
