-- An annotation property that may be declared makes no node what it is.
use lib.Utf8.{encode}
use Rattle.std.proofs.Common.{◌≡◌, ℕ, true, false, List, [], inl, inr, refl, sym, ap, ◌∙◌, subst}
use Rattle.std.specs.Prelude.{codes, not, nat_eq}
use Rattle.std.specs.List.{list_all, starts_with}
use Rattle.std.specs.Str.{bytes_eq}
use Rattle.std.proofs.lemmas.Bool.{both_ways, or_cases, or_left, or_right}
use Rattle.std.proofs.lemmas.Slice.Eq.{bytes_eq-Decides}
use Rattle.owl_kind.specs.declared.kind.Kind.TheVariants.{AnnotationProperty}
use Rattle.owl_kind.specs.Kinds.{annotation_properties, is_built_in}
use Rattle.owl_characters.specs.Order.{text_eq}
use Rattle.rdf_terms.specs.Vocabulary.{is_reserved, rdf, rdfs, xsd}
use Rattle.rdf_meaning.specs.declared.word.Word.{Word}
use Rattle.rdf_meaning.specs.declared.word.Word.TheVariants as word
use Rattle.rdf_meaning.specs.Kinds.{may_be_declared}
use Rattle.rdf_meaning.proofs.ListLaws.{passes, some_passes}
use Rattle.rdf_meaning.specs.Nodes.{is_facet, type_iri}
use Rattle.rdf_meaning.specs.Words.{word_iri}
use Rattle.rdf_mapping.specs.Frames.{by_facet, by_word}
use Rattle.rdf_mapping.specs.Notes.{Notes, no_notes, note}
use Rattle.rdf_mapping.specs.Entries.{AreAllBeside, AreAllDeclarable, IsBeside}
use Rattle.rdf_mapping.proofs.SpellingLaws.{predicate_cases}

words_reserved : (w : Word) → may_be_declared AnnotationProperty (word_iri w) ≡ false
unfolding may_be_declared is_reserved is_built_in annotation_properties word_iri encode
words_reserved word.Class = refl
words_reserved _ = refl

type_reserved : may_be_declared AnnotationProperty type_iri ≡ false
unfolding may_be_declared is_reserved is_built_in annotation_properties encode
type_reserved = refl

lang_range_reserved : is_reserved (rdf (codes "langRange")) ≡ true
unfolding is_reserved encode
lang_range_reserved = refl

facets_reserved : (p : List ℕ) → is_facet p ≡ true → is_reserved p ≡ true
unfolding is_facet is_reserved
facets_reserved p h =
    elim (or_cases (starts_with nat_eq p (xsd [])) (bytes_eq p (rdf (codes "langRange"))) h) [
      | inl x ↦
          or_right (starts_with nat_eq p (rdf [])) _
          (or_right (starts_with nat_eq p (rdfs [])) _ (or_left (starts_with nat_eq p (xsd [])) _ x))
      | inr l ↦ subst (λ (q : List ℕ). is_reserved q ≡ true) (sym ((bytes_eq-Decides p (rdf (codes "langRange"))).0 l)) lang_range_reserved
    ]

no_facets : list_all (λ q. not (is_facet q)) annotation_properties ≡ true
unfolding is_facet annotation_properties encode
no_facets = refl

facets_not_built_in : (p : List ℕ) → is_facet p ≡ true → is_built_in AnnotationProperty p ≡ true → ⊥
unfolding is_built_in
facets_not_built_in p h b =
    let s = some_passes (λ other. text_eq other p) annotation_properties b in
    let same : s.element ≡ p = (bytes_eq-Decides s.element p).0 s.passes in
    let other = passes (λ q. not (is_facet q)) annotation_properties s.element no_facets s.inside in
    both_ways false refl (sym (ap not (ap is_facet same ∙ h)) ∙ other)

-- Reserved IRIs that are not built in as annotation properties are those of the words of nodes, and of facets.
pub declarable_beside : (p : List ℕ) → may_be_declared AnnotationProperty p ≡ true → IsBeside p
unfolding may_be_declared
declarable_beside p h t e (by_word w n c) =
    elim (predicate_cases w t c) [
      | inl a ↦ both_ways false refl (sym (ap (may_be_declared AnnotationProperty) (sym e ∙ a) ∙ type_reserved) ∙ h)
      | inr a ↦ both_ways false refl (sym (ap (may_be_declared AnnotationProperty) (sym e ∙ a) ∙ words_reserved w) ∙ h)
    ]
declarable_beside p h t e (by_facet f) =
    let facet : is_facet p ≡ true = ap is_facet (sym e) ∙ f in
    elim (or_cases (not (is_reserved p)) (is_built_in AnnotationProperty p) h) [
      | inl n ↦ both_ways false refl (sym (ap not (facets_reserved p facet)) ∙ n)
      | inr b ↦ facets_not_built_in p facet b
    ]

pub all_declarable_beside : (ns : Notes) → AreAllDeclarable ns → AreAllBeside ns
all_declarable_beside no_notes h = tt
all_declarable_beside (note p v inside more) h =
    (declarable_beside p h.0, (all_declarable_beside inside h.1.0, all_declarable_beside more h.1.1))
