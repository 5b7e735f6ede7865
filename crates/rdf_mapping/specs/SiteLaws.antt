-- Which rows may say an axiom's triple.
use lib.Utf8.{encode}
use Rattle.std.proofs.Common.{◌≡◌, ℕ, Bool, true, false, List, [], ◌∷◌, inl, inr, refl, ap, ◌∙◌}
use Rattle.std.specs.Prelude.{Contains}
use Rattle.std.specs.List.{filter, list_any}
use Rattle.std.specs.Str.{bytes_eq}
use Rattle.std.proofs.lemmas.Bool.{and_parts, both_ways, cases_Bool, cond-false, cond-true}
use Rattle.std.proofs.lemmas.Slice.Eq.{bytes_eq-Decides}
use Rattle.owl_list.proofs.AscendingLaws.{in_head, in_tail}
use Rattle.rdf_graph.specs.declared.term.Term.{Term}
use Rattle.rdf_graph.specs.declared.term.Term.TheVariants.{Iri}
use Rattle.rdf_meaning.specs.declared.row.Site.TheVariants.{TypedBy, OtherType, LinkedBy, OtherLink}
use Rattle.rdf_meaning.specs.declared.word.Word.{Word}
use Rattle.rdf_meaning.specs.declared.word.Word.TheVariants as word
use Rattle.rdf_meaning.specs.Denotation.{axiom_predicates, axiom_types, first_of, site_of}
use Rattle.rdf_meaning.proofs.NodeLaws.{same_term}
use Rattle.rdf_meaning.specs.Nodes.{is_same, is_word, says_type, type_iri}
use Rattle.rdf_meaning.specs.Words.{word_iri, word_number}
use Rattle.rdf_mapping.specs.Forms.{link}

-- a predicate that says which axiom a triple is
pub linked_site : (w : Word) → list_any (is_word w) axiom_predicates ≡ true → (s o : Term) → site_of (link s (word_iri w) o) ≡ LinkedBy w
unfolding axiom_predicates axiom_types site_of word_iri word_number encode
linked_site word.SubClassOf h s o = refl
linked_site word.EquivalentClass h s o = refl
linked_site word.DisjointWith h s o = refl
linked_site word.DisjointUnionOf h s o = refl
linked_site word.HasKey h s o = refl
linked_site word.SubPropertyOf h s o = refl
linked_site word.PropertyChainAxiom h s o = refl
linked_site word.EquivalentProperty h s o = refl
linked_site word.PropertyDisjointWith h s o = refl
linked_site word.InverseOf h s o = refl
linked_site word.Domain h s o = refl
linked_site word.Range h s o = refl
linked_site word.SameAs h s o = refl
linked_site word.DifferentFrom h s o = refl
linked_site _ h s o = absurd (both_ways false refl h)

none_kept : {X : Type 0} (test : X → Bool) (xs : List X) → ((x : X) → Contains xs x → test x ≡ true → ⊥) → filter test xs ≡ []
none_kept test [] h = refl
none_kept test (x ∷ xs) h =
    elim (cases_Bool (test x)) [
      | inl t ↦ absurd (h x (in_head x xs) t)
      | inr f ↦ cond-false (test x) (x ∷ filter test xs) (filter test xs) f ∙ none_kept test xs (λ y m. h y (in_tail x xs y m))
    ]

-- a class that no axiom is said by
pub other_type_site : (s o : Term) → ((w : Word) → Contains axiom_types w → o ≡ Iri (word_iri w) → ⊥) → site_of (link s type_iri o) ≡ OtherType
unfolding site_of
other_type_site s o none =
    cond-true (bytes_eq type_iri type_iri)
    (first_of TypedBy OtherType (filter (λ w. says_type (word_iri w) (link s type_iri o)) axiom_types))
    (first_of LinkedBy OtherLink (filter (λ w. bytes_eq type_iri (word_iri w)) axiom_predicates))
    ((bytes_eq-Decides type_iri type_iri).1 refl)
    ∙ ap (first_of TypedBy OtherType)
    (none_kept (λ w. says_type (word_iri w) (link s type_iri o)) axiom_types
    (λ w m h. none w m (same_term o (Iri (word_iri w)) (and_parts (bytes_eq type_iri type_iri) (is_same o (Iri (word_iri w))) h).1)))

-- a predicate that no axiom is said by
pub other_link_site : (s o : Term) (p : List ℕ) → (p ≡ type_iri → ⊥) → ((w : Word) → Contains axiom_predicates w → p ≡ word_iri w → ⊥) → site_of (link s p o) ≡ OtherLink
unfolding site_of
other_link_site s o p plain none =
    elim (cases_Bool (bytes_eq p type_iri)) [
      | inl t ↦ absurd (plain ((bytes_eq-Decides p type_iri).0 t))
      | inr f ↦
          cond-false (bytes_eq p type_iri) _ _ f
          ∙ ap (first_of LinkedBy OtherLink)
          (none_kept (λ w. bytes_eq p (word_iri w)) axiom_predicates (λ w m h. none w m ((bytes_eq-Decides p (word_iri w)).0 h)))
    ]

-- a class that an axiom is said by
pub typed_site : (w : Word) → list_any (is_word w) axiom_types ≡ true → (s : Term) → site_of (link s type_iri (Iri (word_iri w))) ≡ TypedBy w
unfolding axiom_predicates axiom_types site_of word_iri word_number encode
typed_site word.Class h s = refl
typed_site word.Datatype h s = refl
typed_site word.ObjectProperty h s = refl
typed_site word.DatatypeProperty h s = refl
typed_site word.AnnotationProperty h s = refl
typed_site word.NamedIndividual h s = refl
typed_site word.FunctionalProperty h s = refl
typed_site word.InverseFunctionalProperty h s = refl
typed_site word.ReflexiveProperty h s = refl
typed_site word.IrreflexiveProperty h s = refl
typed_site word.SymmetricProperty h s = refl
typed_site word.AsymmetricProperty h s = refl
typed_site word.TransitiveProperty h s = refl
typed_site _ h s = absurd (both_ways false refl h)
