-- A triple that says an axiom is none of a node, of the header or of annotations.
use lib.Utf8.{encode}
use Rattle.std.proofs.Common.{◌≡◌, ◌⊎◌, Bool, true, false, List, inl, inr, refl, sym, ap, ◌∙◌, subst}
use Rattle.std.specs.Prelude.{Contains, not, ◌&&◌, ◌||◌}
use Rattle.std.specs.List.{list_all, list_any}
use Rattle.std.specs.Str.{bytes_eq}
use Rattle.std.proofs.lemmas.Bool.{and_from, and_parts, both_ways, cases_Bool, cond-false, cond-true, eq-eqb, or_cases, or_left, or_right}
use Rattle.std.proofs.lemmas.Slice.Eq.{bytes_eq-Decides}
use Rattle.owl_kind.specs.declared.kind.Kind.TheVariants as kind
use Rattle.owl_kind.specs.Kinds.{Entity}
use Rattle.rdf_graph.specs.declared.term.Term.{Term}
use Rattle.rdf_graph.specs.declared.term.Term.TheVariants.{Iri, Blank, Literal}
use Rattle.rdf_graph.specs.declared.triple.Triple.{Triple}
use Rattle.rdf_meaning.specs.declared.role.Role.TheVariants as role
use Rattle.rdf_meaning.specs.declared.word.Word.{Word}
use Rattle.rdf_meaning.specs.declared.word.Word.TheVariants as word
use Rattle.rdf_meaning.specs.Denotation.{axiom_predicates, axiom_types}
use Rattle.rdf_meaning.specs.Kinds.{has_kind}
use Rattle.rdf_meaning.proofs.ListLaws.{passes, some_passes}
use Rattle.rdf_meaning.proofs.NodeLaws.{one_word, own_term, typed_object}
use Rattle.rdf_meaning.specs.Nodes.{carries, carries_some, is_facet, is_iri, is_same, is_word, role_of, type_iri, words_of}
use Rattle.rdf_meaning.specs.Statements.{header_words, is_axiom_predicate}
use Rattle.rdf_meaning.proofs.WordLaws.{same_iri, same_word}
use Rattle.rdf_meaning.specs.Words.{is_type, word_iri, word_number}
use Rattle.rdf_mapping.specs.Frames.{IsOfNode, by_facet, by_word, is_node_word}
use Rattle.rdf_mapping.proofs.FreeLaws.{free_carries}
use Rattle.rdf_mapping.specs.OwnLaws.{any_from}
use Rattle.rdf_mapping.proofs.SortLaws.{no_true}
use Rattle.rdf_mapping.specs.Sorts.{IsFree, IsMain, SaysAxiom, by_class, by_free, by_link, by_type}
use Rattle.rdf_mapping.proofs.SpellingLaws.{predicate_of}

-- no word is of a facet, nor is rdf:type
no_facet : (w : Word) → is_facet (word_iri w) ≡ false
unfolding is_facet word_iri encode
no_facet word.Class = refl
no_facet _ = refl

no_facet_type : is_facet type_iri ≡ false
unfolding is_facet encode
no_facet_type = refl

not_type : (w : Word) → bytes_eq type_iri (word_iri w) ≡ false
unfolding word_iri encode
not_type word.Class = refl
not_type _ = refl

no_type_word : (w : Word) → type_iri ≡ word_iri w → ⊥
no_type_word w e = both_ways (bytes_eq type_iri (word_iri w)) (not_type w) ((bytes_eq-Decides type_iri (word_iri w)).1 e)

own_number : (w : Word) → is_word w w ≡ true
own_number w = eq-eqb (word_number w) (word_number w) refl

-- the words that tell axioms are types, or predicates, and none of the header
type_words : list_all (λ w. is_type w && not (list_any (is_word w) header_words)) axiom_types ≡ true
unfolding axiom_types is_type word_number
type_words = refl

link_words : list_all (λ w. not (is_type w) && not (list_any (is_word w) header_words)) axiom_predicates ≡ true
unfolding axiom_predicates is_type word_number
link_words = refl

carries_type : (w : Word) (t : Triple) → is_type w ≡ true → t.predicate ≡ type_iri → t.object ≡ Iri (word_iri w) → carries w t ≡ true
unfolding carries
carries_type w t y p o =
    cond-true (is_type w) _ _ y
    ∙ and_from (bytes_eq t.predicate type_iri) (is_same t.object (Iri (word_iri w))) ((bytes_eq-Decides t.predicate type_iri).1 p) (ap (λ (x : Term). is_same x (Iri (word_iri w))) o ∙ own_term (Iri (word_iri w)))

linked : (v : Word) (t : Triple) → is_type v ≡ false → carries v t ≡ true → t.predicate ≡ word_iri v
linked v t n h = predicate_of v t h ∙ cond-false (is_type v) type_iri (word_iri v) n

typed : (v : Word) (t : Triple) → is_type v ≡ true → carries v t ≡ true → t.predicate ≡ type_iri
typed v t y h = predicate_of v t h ∙ cond-true (is_type v) type_iri (word_iri v) y

inverse_object : (t : Triple) → carries word.InverseOf t ≡ true → is_iri t.object ≡ true
unfolding carries is_type word_number
inverse_object t h = (and_parts (bytes_eq t.predicate (word_iri word.InverseOf)) (is_iri t.object) h).1

only_inverse : list_all (λ w. not (is_node_word w) || is_word w word.InverseOf) axiom_predicates ≡ true
unfolding axiom_predicates is_node_word word_number words_of
only_inverse = refl

one_inverse : (w : Word) → Contains axiom_predicates w → is_node_word w ≡ true → w ≡ word.InverseOf
one_inverse w m n =
    elim (or_cases (not (is_node_word w)) (is_word w word.InverseOf) (passes (λ w. not (is_node_word w) || is_word w word.InverseOf) axiom_predicates w only_inverse m)) [
      | inl a ↦ absurd (both_ways false refl (sym (ap not n) ∙ a))
      | inr b ↦ same_word w word.InverseOf b
    ]

-- the words that such a triple carries: they tell axioms, none is of the header, and those of nodes are at IRIs alone
pub record IsHarmless (t : Triple) (v : Word) : Type 0 where
  pub tells : list_any (is_word v) axiom_types || list_any (is_word v) axiom_predicates ≡ true
  pub no_header : list_any (is_word v) header_words ≡ false
  pub at_iri : is_node_word v ≡ true → is_iri t.subject ≡ true

not_false : (b : Bool) → not b ≡ true → b ≡ false
not_false true h = cc
not_false false h = refl

harmless_as : (t : Triple) (w v : Word) → w ≡ v → IsHarmless t w → IsHarmless t v
harmless_as t w v e h = subst (λ (u : Word). IsHarmless t u) e h

by_predicate : (t : Triple) (w v : Word) → Contains axiom_predicates w → t.predicate ≡ word_iri w → carries v t ≡ true → v ≡ w
by_predicate t w v m p h =
    let no = and_parts (not (is_type w)) (not (list_any (is_word w) header_words)) (passes (λ w. not (is_type w) && not (list_any (is_word w) header_words)) axiom_predicates w link_words m) in
    elim (cases_Bool (is_type v)) [
      | inl y ↦ absurd (no_type_word w (sym (typed v t y h) ∙ p))
      | inr n ↦ same_iri v w (n ∙ sym (not_false (is_type w) no.0)) (sym (linked v t n h) ∙ p)
    ]

pub harmless : (t : Triple) → SaysAxiom t → (v : Word) → carries v t ≡ true → IsHarmless t v
harmless t (by_type w m p o i) v h =
    let is = and_parts (is_type w) (not (list_any (is_word w) header_words)) (passes (λ w. is_type w && not (list_any (is_word w) header_words)) axiom_types w type_words m) in
    harmless_as t w v (one_word w v t (carries_type w t is.0 p o) h) (record {
      tells = or_left (list_any (is_word w) axiom_types) (list_any (is_word w) axiom_predicates) (any_from (is_word w) axiom_types w m (own_number w));
      no_header = not_false (list_any (is_word w) header_words) is.1;
      at_iri = i;
    })
harmless t (by_class p o) v h =
    elim (cases_Bool (is_type v)) [
      | inl y ↦ absurd (o v (typed_object v t y h))
      | inr n ↦ absurd (no_type_word v (sym p ∙ linked v t n h))
    ]
harmless t (by_link w m p i) v h =
    let no = and_parts (not (is_type w)) (not (list_any (is_word w) header_words)) (passes (λ w. not (is_type w) && not (list_any (is_word w) header_words)) axiom_predicates w link_words m) in
    let same = by_predicate t w v m p h in
    harmless_as t w v (sym same) (record {
      tells = or_right (list_any (is_word w) axiom_types) (list_any (is_word w) axiom_predicates) (any_from (is_word w) axiom_predicates w m (own_number w));
      no_header = not_false (list_any (is_word w) header_words) no.1;
      at_iri = λ n.
          elim (i n) [
            | inl f ↦ absurd (both_ways (is_iri t.object) f (inverse_object t (subst (λ (u : Word). carries u t ≡ true) (same ∙ one_inverse w m n) h)))
            | inr y ↦ y
          ];
    })
harmless t (by_free f) v h = absurd (free_carries t.predicate f t refl v h)

iri_role : (g : List Triple) (x : Term) → is_iri x ≡ true → role_of g x ≡ role.Individual
iri_role g (Iri iri) h = refl
iri_role g (Blank label) h = absurd (both_ways false refl h)
iri_role g (Literal literal) h = absurd (both_ways false refl h)

says_no_facet : (t : Triple) → SaysAxiom t → is_facet t.predicate ≡ false
says_no_facet t (by_type w m p o i) = ap is_facet p ∙ no_facet_type
says_no_facet t (by_class p o) = ap is_facet p ∙ no_facet_type
says_no_facet t (by_link w m p i) = ap is_facet p ∙ no_facet w
says_no_facet t (by_free f) = f.no_facet

type_tells : is_axiom_predicate type_iri ≡ true
type_tells = or_left (bytes_eq type_iri type_iri) (list_any (λ w. bytes_eq type_iri (word_iri w)) axiom_predicates) ((bytes_eq-Decides type_iri type_iri).1 refl)

link_tells : (w : Word) → Contains axiom_predicates w → is_axiom_predicate (word_iri w) ≡ true
link_tells w m =
    or_right (bytes_eq (word_iri w) type_iri) (list_any (λ v. bytes_eq (word_iri w) (word_iri v)) axiom_predicates)
    (any_from (λ v. bytes_eq (word_iri w) (word_iri v)) axiom_predicates w m ((bytes_eq-Decides (word_iri w) (word_iri w)).1 refl))

-- its predicate tells an axiom, or is one that may have been declared
says_tells : (t : Triple) → SaysAxiom t → (is_axiom_predicate t.predicate ≡ true) ⊎ IsFree t.predicate
says_tells t (by_type w m p o i) = inl (ap is_axiom_predicate p ∙ type_tells)
says_tells t (by_class p o) = inl (ap is_axiom_predicate p ∙ type_tells)
says_tells t (by_link w m p i) = inl (ap is_axiom_predicate p ∙ link_tells w m)
says_tells t (by_free f) = inr f

-- where it would make its subject what it is, that is an IRI
pub node_iri : (t : Triple) → SaysAxiom t → IsOfNode t → is_iri t.subject ≡ true
node_iri t s (by_word v n h) = (harmless t s v h).at_iri n
node_iri t s (by_facet h) = absurd (both_ways (is_facet t.predicate) (says_no_facet t s) h)

-- A triple that says an axiom is a main triple, if its subject has no annotations, and no annotation property leads from the header.
pub says_main : (g : List Triple) (k : List Entity) (header : Term) (t : Triple) → SaysAxiom t → (t.subject ≡ header → IsFree t.predicate → has_kind k kind.AnnotationProperty t.predicate ≡ true → ⊥) → (role_of g t.subject ≡ role.Main → ⊥) → (role_of g t.subject ≡ role.Note → ⊥) → IsMain g k header t
says_main g k header t s apart main note =
    record {
      of_no_node = λ o. iri_role g t.subject (node_iri t s o);
      of_no_header = λ e.
          no_true (carries_some header_words t) (λ h.
          let p = some_passes (λ w. carries w t) header_words h in
          both_ways (list_any (is_word p.element) header_words) (harmless t s p.element p.passes).no_header (any_from (is_word p.element) header_words p.element p.inside (own_number p.element)));
      of_no_annotations = λ e h. elim (says_tells t s) [ inl y ↦ y | inr f ↦ absurd (apart e f h) ];
      no_main_node = main;
      no_note_node = note;
    }
