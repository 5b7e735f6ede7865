-- A property that an ontology may name has no IRI that means something in a graph.
use lib.Utf8.{encode}
use Rattle.std.proofs.Common.{◌≡◌, ℕ, Bool, true, false, List, [], ◌∷◌, inl, inr, refl, sym, ap, ◌∙◌}
use Rattle.std.specs.Prelude.{not, ◌||◌, codes, nat_eq, map}
use Rattle.std.specs.List.{list_all, list_any, starts_with}
use Rattle.std.specs.Str.{bytes_eq}
use Rattle.std.proofs.lemmas.Bool.{both_ways, or_cases, or_left, or_right}
use Rattle.std.proofs.lemmas.Slice.Eq.{bytes_eq-Decides}
use Rattle.rdf_terms.specs.Datatypes.{has}
use Rattle.rdf_terms.specs.Vocabulary.{is_reserved, owl, rdf, rdfs, xsd}
use Rattle.owl_kind.specs.declared.kind.Kind.{Kind}
use Rattle.owl_kind.specs.declared.kind.Kind.TheVariants as kind
use Rattle.owl_kind.specs.Kinds.{annotation_properties, is_built_in}
use Rattle.rdf_graph.specs.declared.triple.Triple.{Triple}
use Rattle.rdf_meaning.specs.declared.word.Word.{Word}
use Rattle.rdf_meaning.specs.declared.word.Word.TheVariants as word
use Rattle.rdf_meaning.specs.Kinds.{may_be_declared}
use Rattle.rdf_meaning.proofs.ListLaws.{passes, some_passes}
use Rattle.rdf_meaning.specs.Nodes.{carries, is_facet, type_iri}
use Rattle.rdf_meaning.specs.Words.{word_iri}
use Rattle.rdf_mapping.specs.Frames.{by_facet, by_word}
use Rattle.rdf_mapping.specs.Entries.{IsBeside}
use Rattle.rdf_meaning.specs.Denotation.{axiom_predicates}
use Rattle.rdf_meaning.specs.Statements.{is_axiom_predicate}
use Rattle.owl_characters.specs.Order.{text_eq}
use Rattle.rdf_mapping.proofs.SortLaws.{no_true}
use Rattle.rdf_mapping.specs.Sorts.{IsFree, IsProperty, annotation_property, data_property, object_property}
use Rattle.rdf_mapping.proofs.SpellingLaws.{predicate_cases}

no_annotation_property : (w : Word) → may_be_declared kind.AnnotationProperty (word_iri w) ≡ false
unfolding may_be_declared is_reserved is_built_in annotation_properties word_iri encode
no_annotation_property word.Class = refl
no_annotation_property _ = refl

no_object_property : (w : Word) → may_be_declared kind.ObjectProperty (word_iri w) ≡ false
unfolding may_be_declared is_reserved is_built_in word_iri encode
no_object_property word.Class = refl
no_object_property _ = refl

no_data_property : (w : Word) → may_be_declared kind.DataProperty (word_iri w) ≡ false
unfolding may_be_declared is_reserved is_built_in word_iri encode
no_data_property word.Class = refl
no_data_property _ = refl

pub no_class : (w : Word) → may_be_declared kind.Class (word_iri w) ≡ false
unfolding may_be_declared is_reserved is_built_in word_iri encode
no_class word.Class = refl
no_class _ = refl

no_types : list_all (λ k. not (may_be_declared k type_iri)) (kind.AnnotationProperty ∷ kind.ObjectProperty ∷ kind.DataProperty ∷ []) ≡ true
unfolding may_be_declared is_reserved is_built_in annotation_properties encode
no_types = refl

word_undeclared : (k : Kind) → IsProperty k → (w : Word) → may_be_declared k (word_iri w) ≡ false
word_undeclared _ (annotation_property) w = no_annotation_property w
word_undeclared _ (object_property) w = no_object_property w
word_undeclared _ (data_property) w = no_data_property w

type_undeclared : (k : Kind) → IsProperty k → may_be_declared k type_iri ≡ false
unfolding may_be_declared is_reserved is_built_in annotation_properties encode
type_undeclared _ (annotation_property) = refl
type_undeclared _ (object_property) = refl
type_undeclared _ (data_property) = refl

abbrev range_iri : List ℕ
range_iri = rdf (codes "langRange")

range_undeclared : (k : Kind) → IsProperty k → may_be_declared k range_iri ≡ false
unfolding may_be_declared is_reserved is_built_in annotation_properties encode
range_undeclared _ (annotation_property) = refl
range_undeclared _ (object_property) = refl
range_undeclared _ (data_property) = refl

abbrev in_xsd : List ℕ → Bool
in_xsd iri = starts_with nat_eq iri (xsd [])

reserved_there : (p : List ℕ) → in_xsd p ≡ true → is_reserved p ≡ true
unfolding is_reserved
reserved_there p h =
    or_right (starts_with nat_eq p (rdf [])) (starts_with nat_eq p (rdfs []) || (in_xsd p || (starts_with nat_eq p (owl []) || false)))
    (or_right (starts_with nat_eq p (rdfs [])) (in_xsd p || (starts_with nat_eq p (owl []) || false))
    (or_left (in_xsd p) (starts_with nat_eq p (owl []) || false) h))

not_listed : (names : List (List ℕ)) (p : List ℕ) → list_all (λ e. not (in_xsd e)) names ≡ true → has names p ≡ true → in_xsd p ≡ true → ⊥
not_listed names p all h s =
    let k = some_passes (λ e. text_eq e p) names h in
    let same : k.element ≡ p = (bytes_eq-Decides k.element p).0 k.passes in
    both_ways false refl (sym (ap (λ (e : List ℕ). not (in_xsd e)) same ∙ ap not s) ∙ passes (λ e. not (in_xsd e)) names k.element all k.inside)

not_built_in : (k : Kind) → IsProperty k → (p : List ℕ) → is_built_in k p ≡ true → in_xsd p ≡ true → ⊥
unfolding is_built_in annotation_properties encode
not_built_in _ (annotation_property) p h s = not_listed annotation_properties p refl h s
not_built_in _ (object_property) p h s = not_listed (map owl (codes "topObjectProperty" ∷ codes "bottomObjectProperty" ∷ [])) p refl h s
not_built_in _ (data_property) p h s = not_listed (map owl (codes "topDataProperty" ∷ codes "bottomDataProperty" ∷ [])) p refl h s

xsd_undeclared : (k : Kind) → IsProperty k → (p : List ℕ) → may_be_declared k p ≡ true → in_xsd p ≡ true → ⊥
unfolding may_be_declared
xsd_undeclared k is p m s =
    elim (or_cases (not (is_reserved p)) (is_built_in k p) m) [
      | inl n ↦ both_ways false refl (sym (ap not (reserved_there p s)) ∙ n)
      | inr b ↦ not_built_in k is p b s
    ]

same_declared : (k : Kind) (p q : List ℕ) → p ≡ q → may_be_declared k p ≡ true → may_be_declared k q ≡ false → ⊥
same_declared k p q e m n = both_ways (may_be_declared k q) n (ap (may_be_declared k) (sym e) ∙ m)

facet_undeclared : (k : Kind) → IsProperty k → (p : List ℕ) → may_be_declared k p ≡ true → is_facet p ≡ true → ⊥
unfolding is_facet
facet_undeclared k is p m h =
    elim (or_cases (in_xsd p) (bytes_eq p range_iri) h) [
      | inl s ↦ xsd_undeclared k is p m s
      | inr e ↦ same_declared k p range_iri ((bytes_eq-Decides p range_iri).0 e) m (range_undeclared k is)
    ]

-- a property that can be said has no IRI that means something in a graph
pub property_free : (k : Kind) → IsProperty k → (p : List ℕ) → may_be_declared k p ≡ true → IsFree p
property_free k is p m =
    record {
      no_word = λ w e. same_declared k p (word_iri w) e m (word_undeclared k is w);
      no_type = λ e. same_declared k p type_iri e m (type_undeclared k is);
      no_facet = no_true (is_facet p) (λ h. facet_undeclared k is p m h);
    }

-- a triple with such a predicate carries no word
pub free_carries : (p : List ℕ) → IsFree p → (t : Triple) → t.predicate ≡ p → (w : Word) → carries w t ≡ true → ⊥
free_carries p f t e w h = elim (predicate_cases w t h) [ inl y ↦ f.no_type (sym e ∙ y) | inr n ↦ f.no_word w (sym e ∙ n) ]

-- and makes no node what it is
pub free_beside : (p : List ℕ) → IsFree p → IsBeside p
free_beside p f t e (by_word w n h) = free_carries p f t e w h
free_beside p f t e (by_facet h) = both_ways (is_facet p) f.no_facet (ap is_facet (sym e) ∙ h)

-- nor does it tell an axiom
pub free_tells_none : (p : List ℕ) → IsFree p → is_axiom_predicate p ≡ false
free_tells_none p f =
    no_true (is_axiom_predicate p) (λ h.
    elim (or_cases (bytes_eq p type_iri) (list_any (λ w. bytes_eq p (word_iri w)) axiom_predicates) h) [
      | inl y ↦ f.no_type ((bytes_eq-Decides p type_iri).0 y)
      | inr n ↦ let k = some_passes (λ w. bytes_eq p (word_iri w)) axiom_predicates n in f.no_word k.element ((bytes_eq-Decides p (word_iri k.element)).0 k.passes)
    ])
