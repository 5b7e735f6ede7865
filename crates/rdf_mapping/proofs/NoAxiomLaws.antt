-- What is drawn of the header and of annotations is no axiom.
use lib.Utf8.{encode}
use Rattle.std.proofs.Common.{◌≡◌, ◌⊎◌, ℕ, true, false, List, ◌∷◌, inl, inr, refl, ap, ◌∙◌, subst}
use Rattle.std.specs.Prelude.{Contains, not, ◌&&◌, ◌||◌, map, Option, None, Some}
use Rattle.std.proofs.lemmas.Bool.{and_from, cases_Bool, or_left, or_right}
use Rattle.owl_kind.specs.declared.kind.Kind.TheVariants as kind
use Rattle.owl_kind.specs.Kinds.{Entity}
use Rattle.owl_list.proofs.AscendingLaws.{from_map, in_cases}
use Rattle.owl_tree.specs.Ontologies.{Head, OntologyName}
use Rattle.rdf_graph.specs.declared.term.Term.{Term}
use Rattle.rdf_graph.specs.declared.term.Term.TheVariants.{Iri}
use Rattle.rdf_graph.specs.declared.triple.Triple.{Triple}
use Rattle.rdf_meaning.specs.declared.role.Role.TheVariants as role
use Rattle.rdf_meaning.specs.declared.word.Word.TheVariants as word
use Rattle.rdf_meaning.specs.Kinds.{has_kind}
use Rattle.rdf_meaning.proofs.ListLaws.{some_passes}
use Rattle.rdf_meaning.proofs.NodeLaws.{own_term}
use Rattle.rdf_meaning.specs.Nodes.{carries, carries_some, is_role, is_same, is_structural, role_of, type_iri}
use Rattle.rdf_meaning.proofs.RowLaws.{own_role}
use Rattle.rdf_meaning.specs.Statements.{header_words, is_annotation_triple, is_axiom_predicate, is_header_triple}
use Rattle.rdf_meaning.specs.Words.{is_type, word_iri, word_number}
use Rattle.rdf_mapping.specs.Forms.{link}
use Rattle.rdf_mapping.proofs.FreeLaws.{free_carries, free_tells_none}
use Rattle.rdf_mapping.specs.Graphs.{head_triples}
use Rattle.rdf_mapping.proofs.SortLaws.{no_true}
use Rattle.rdf_mapping.specs.Sorts.{IsAside, of_annotations, of_node, IsFree}

-- each triple of a node with annotations belongs to the node, or is one of these
pub noted_aside : (g : List Triple) (k : List Entity) (header : Term) (t : Triple) → (role_of g t.subject ≡ role.Main) ⊎ (role_of g t.subject ≡ role.Note) → IsAside g k header t
unfolding is_annotation_triple
noted_aside g k header t r =
    elim (cases_Bool (is_structural g t)) [
      | inl y ↦ of_node y
      | inr n ↦
          let a = is_role role.Main (role_of g t.subject) in
          let b = is_role role.Note (role_of g t.subject) in
          let noted : a || b ≡ true = elim r [ inl e ↦ or_left a b (ap (is_role role.Main) e ∙ own_role role.Main) | inr e ↦ or_right a b (ap (is_role role.Note) e ∙ own_role role.Note) ] in
          of_annotations (or_right (is_same t.subject header && not (carries_some header_words t) && has_kind k kind.AnnotationProperty t.predicate && not (is_axiom_predicate t.predicate)) ((a || b) && not (is_structural g t)) (and_from (a || b) (not (is_structural g t)) noted (ap not n)))
    ]

-- the triples that name the ontology

type_named : (x : Term) → carries_some header_words (link x type_iri (Iri (word_iri word.Ontology))) ≡ true
unfolding carries is_type word_iri word_number encode
type_named x = refl

version_named : (x y : Term) → carries_some header_words (link x (word_iri word.VersionIri) y) ≡ true
unfolding carries is_type word_iri word_number encode
version_named x y = refl

import_named : (x y : Term) → carries_some header_words (link x (word_iri word.Imports) y) ≡ true
unfolding carries is_type word_iri word_number encode
import_named x y = refl

named : (x : Term) (t u : Triple) → u ≡ t → u.subject ≡ x → carries_some header_words u ≡ true → is_header_triple x t ≡ true
unfolding is_header_triple
named x t u e s h =
    subst (λ (v : Triple). is_same v.subject x && carries_some header_words v ≡ true) e
    (and_from (is_same u.subject x) (carries_some header_words u) (ap (λ (y : Term). is_same y x) s ∙ own_term x) h)

imports_named : (x : Term) (imports : List (List ℕ)) (t : Triple) → Contains (map (λ i. link x (word_iri word.Imports) (Iri i)) imports) t → is_header_triple x t ≡ true
imports_named x imports t m =
    let v = from_map (λ i. link x (word_iri word.Imports) (Iri i)) imports t m in
    named x t (link x (word_iri word.Imports) (Iri v.element)) v.value refl (import_named x (Iri v.element))

plain_head : (x : Term) (imports : List (List ℕ)) (t : Triple) → Contains (link x type_iri (Iri (word_iri word.Ontology)) ∷ map (λ i. link x (word_iri word.Imports) (Iri i)) imports) t → is_header_triple x t ≡ true
plain_head x imports t m =
    let first = link x type_iri (Iri (word_iri word.Ontology)) in
    elim (in_cases first (map (λ i. link x (word_iri word.Imports) (Iri i)) imports) t m) [
      | inl e ↦ named x t first e refl (type_named x)
      | inr k ↦ imports_named x imports t k
    ]

version_head : (x : Term) (iri : List ℕ) (version : Option (List ℕ)) (imports : List (List ℕ)) (t : Triple) → Contains (head_triples x (record { name = Some (record { iri = iri; version = version }); imports = imports })) t → is_header_triple x t ≡ true
version_head x iri None imports t m = plain_head x imports t m
version_head x iri (Some version) imports t m =
    let first = link x type_iri (Iri (word_iri word.Ontology)) in
    let second = link x (word_iri word.VersionIri) (Iri version) in
    let rest = map (λ i. link x (word_iri word.Imports) (Iri i)) imports in
    elim (in_cases first (second ∷ rest) t m) [
      | inl e ↦ named x t first e refl (type_named x)
      | inr k ↦ elim (in_cases second rest t k) [ inl e ↦ named x t second e refl (version_named x (Iri version)) | inr l ↦ imports_named x imports t l ]
    ]

name_head : (x : Term) (name : Option OntologyName) (imports : List (List ℕ)) (t : Triple) → Contains (head_triples x (record { name = name; imports = imports })) t → is_header_triple x t ≡ true
name_head x None imports t m = plain_head x imports t m
name_head x (Some n) imports t m = version_head x n.iri n.version imports t m

pub head_named : (x : Term) (h : Head) (t : Triple) → Contains (head_triples x h) t → is_header_triple x t ≡ true
head_named x h t m = name_head x h.name h.imports t m

-- the annotations of the ontology

no_words : (t : Triple) → IsFree t.predicate → carries_some header_words t ≡ false
no_words t f = no_true (carries_some header_words t) (λ h. let p = some_passes (λ w. carries w t) header_words h in free_carries t.predicate f t refl p.element p.passes)

pub header_note : (g : List Triple) (k : List Entity) (header : Term) (t : Triple) → t.subject ≡ header → IsFree t.predicate → has_kind k kind.AnnotationProperty t.predicate ≡ true → is_annotation_triple g k header t ≡ true
unfolding is_annotation_triple
header_note g k header t s f h =
    let a = is_same t.subject header in
    let b = not (carries_some header_words t) in
    let c = has_kind k kind.AnnotationProperty t.predicate in
    let d = not (is_axiom_predicate t.predicate) in
    or_left (a && b && c && d) ((is_role role.Main (role_of g t.subject) || is_role role.Note (role_of g t.subject)) && not (is_structural g t))
    (and_from (a && b && c) d (and_from (a && b) c (and_from a b (ap (λ (y : Term). is_same y header) s ∙ own_term header) (ap not (no_words t f))) h) (ap not (free_tells_none t.predicate f)))
