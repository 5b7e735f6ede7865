-- Which triples are marks of a role, and which words triples carry.
use lib.Utf8.{encode}
use Rattle.std.proofs.Common.{◌≡◌, ℕ, Bool, true, false, not, List, [], ◌∷◌, inl, inr, refl, sym, ap, ◌∙◌, subst, arith}
use Rattle.std.specs.Prelude.{Contains, ◌||◌, map, Option, None, Some}
use Rattle.std.specs.List.{list_all, list_any}
use Rattle.std.proofs.lemmas.Bool.{both_ways, cases_Bool, not-true, or_cases}
use Rattle.std.proofs.lemmas.List.Elements.{Contains-append_left}
use Rattle.owl_list.proofs.AscendingLaws.{from_map, in_cases, in_head}
use Rattle.owl_tree.specs.Ontologies.{Head, OntologyName}
use Rattle.rdf_graph.specs.declared.term.Term.{Term}
use Rattle.rdf_graph.specs.declared.term.Term.TheVariants.{Iri}
use Rattle.rdf_graph.specs.declared.triple.Triple.{Triple}
use Rattle.rdf_meaning.specs.declared.role.Role.{Role}
use Rattle.rdf_meaning.specs.declared.role.Role.TheVariants as role
use Rattle.rdf_meaning.specs.declared.word.Word.{Word}
use Rattle.rdf_meaning.specs.declared.word.Word.TheVariants as word
use Rattle.rdf_meaning.specs.Denotation.{axiom_predicates, axiom_types}
use Rattle.rdf_meaning.proofs.ListLaws.{Passing, passes, some_passes}
use Rattle.rdf_meaning.specs.Nodes.{carries, carries_some, is_facet, is_own, is_role, is_structural, is_word, marked_roles, marks_role, role_of, type_iri, words_of}
use Rattle.rdf_meaning.proofs.RowLaws.{same_role}
use Rattle.rdf_meaning.specs.Words.{is_type, word_iri, word_number}
use Rattle.rdf_mapping.specs.Forms.{link}
use Rattle.rdf_mapping.specs.Graphs.{head_triples}
use Rattle.rdf_mapping.proofs.MainLaws.{harmless}
use Rattle.rdf_mapping.specs.OwnLaws.{any_from}
use Rattle.rdf_mapping.specs.Sorts.{SaysAxiom}
use Rattle.rdf_mapping.proofs.SpellingLaws.{carried, no_facet, predicate_of}

-- A triple that makes its subject what it is carries no words but those of its role.

by_words : (r : Role) (t : Triple) (v : Word) → carries v t ≡ true → carries_some (words_of r) t ≡ true → list_any (is_word v) (words_of r) ≡ true
by_words r t v c h =
    let p = some_passes (λ w. carries w t) (words_of r) h in
    any_from (is_word v) (words_of r) p.element p.inside (sym (carried v p.element t p.passes) ∙ c)

pub facet_carries : (t : Triple) (v : Word) → is_facet t.predicate ≡ true → carries v t ≡ true → ⊥
facet_carries t v f c = both_ways (is_facet t.predicate) (ap is_facet (predicate_of v t c) ∙ no_facet v) f

own_word : (r : Role) (t : Triple) (v : Word) → carries v t ≡ true → is_own r t ≡ true → list_any (is_word v) (words_of r) ≡ true
own_word role.Facet t v c h = absurd (facet_carries t v h c)
own_word role.List t v c h = by_words role.List t v c h
own_word role.Property t v c h = by_words role.Property t v c h
own_word role.Class t v c h = by_words role.Class t v c h
own_word role.Range t v c h = by_words role.Range t v c h
own_word role.Main t v c h = by_words role.Main t v c h
own_word role.Note t v c h = by_words role.Note t v c h
own_word role.Header t v c h = by_words role.Header t v c h
own_word role.Individual t v c h = by_words role.Individual t v c h

pub structural_is_own : (g : List Triple) (t : Triple) → is_structural g t ≡ true → is_own (role_of g t.subject) t ≡ true
unfolding is_structural
structural_is_own g t h = h

pub structural_word : (g : List Triple) (t : Triple) (v : Word) → is_structural g t ≡ true → carries v t ≡ true → list_any (is_word v) (words_of (role_of g t.subject)) ≡ true
structural_word g t v h c = own_word (role_of g t.subject) t v c (structural_is_own g t h)

-- The marks of a role.

abbrev mark_words : Role → List Word
mark_words role.List = word.First ∷ word.Rest ∷ []
mark_words role.Property = word.InverseOf ∷ []
mark_words role.Class = word.Class ∷ word.Restriction ∷ []
mark_words role.Range = word.Datatype ∷ []
mark_words role.Facet = []
mark_words role.Main = word.AllDisjointClasses ∷ word.AllDisjointProperties ∷ word.AllDifferent ∷ word.NegativePropertyAssertion ∷ []
mark_words role.Note = word.Axiom ∷ word.Annotation ∷ []
mark_words role.Header = word.Ontology ∷ []
mark_words role.Individual = []

one_word_mark : (w : Word) (t : Triple) → carries w t ≡ true → Passing (λ v. carries v t) (w ∷ [])
one_word_mark w t h = record { element = w; inside = in_head w []; passes = h }

-- a mark that is no facet carries one of them
mark_word : (q : Role) (t : Triple) → is_role role.Facet q ≡ false → marks_role q t ≡ true → Passing (λ v. carries v t) (mark_words q)
unfolding marks_role
mark_word role.List t f h = some_passes (λ v. carries v t) (mark_words role.List) h
mark_word role.Property t f h = one_word_mark word.InverseOf t h
mark_word role.Class t f h = some_passes (λ v. carries v t) (mark_words role.Class) h
mark_word role.Range t f h = one_word_mark word.Datatype t h
mark_word role.Facet t f h = absurd (both_ways true f refl)
mark_word role.Main t f h = some_passes (λ v. carries v t) (mark_words role.Main) h
mark_word role.Note t f h = some_passes (λ v. carries v t) (mark_words role.Note) h
mark_word role.Header t f h = one_word_mark word.Ontology t h
mark_word role.Individual t f h = absurd (both_ways false refl h)

abbrev are_own_marks : Role → Role → Bool
are_own_marks r q = list_all (λ w. not (list_any (is_word w) (words_of r)) || is_role q r) (mark_words q)

all_own_marks : (r : Role) → list_all (are_own_marks r) marked_roles ≡ true
unfolding words_of word_number
all_own_marks role.List = refl
all_own_marks _ = refl

in_marked : (q : Role) (t : Triple) → marks_role q t ≡ true → Contains marked_roles q
unfolding marks_role
in_marked role.List t h = (0, omega arith, refl)
in_marked role.Property t h = (1, omega arith, refl)
in_marked role.Class t h = (2, omega arith, refl)
in_marked role.Range t h = (3, omega arith, refl)
in_marked role.Facet t h = (4, omega arith, refl)
in_marked role.Main t h = (5, omega arith, refl)
in_marked role.Note t h = (6, omega arith, refl)
in_marked role.Header t h = (7, omega arith, refl)
in_marked role.Individual t h = absurd (both_ways false refl h)

facet_mark : (t : Triple) → marks_role role.Facet t ≡ true → is_facet t.predicate ≡ true
unfolding marks_role
facet_mark t h = h

own_facet : (r : Role) (t : Triple) → is_own r t ≡ true → is_facet t.predicate ≡ true → role.Facet ≡ r
own_facet role.Facet t h f = refl
own_facet role.List t h f = absurd (let p = some_passes (λ w. carries w t) (words_of role.List) h in facet_carries t p.element f p.passes)
own_facet role.Property t h f = absurd (let p = some_passes (λ w. carries w t) (words_of role.Property) h in facet_carries t p.element f p.passes)
own_facet role.Class t h f = absurd (let p = some_passes (λ w. carries w t) (words_of role.Class) h in facet_carries t p.element f p.passes)
own_facet role.Range t h f = absurd (let p = some_passes (λ w. carries w t) (words_of role.Range) h in facet_carries t p.element f p.passes)
own_facet role.Main t h f = absurd (let p = some_passes (λ w. carries w t) (words_of role.Main) h in facet_carries t p.element f p.passes)
own_facet role.Note t h f = absurd (let p = some_passes (λ w. carries w t) (words_of role.Note) h in facet_carries t p.element f p.passes)
own_facet role.Header t h f = absurd (let p = some_passes (λ w. carries w t) (words_of role.Header) h in facet_carries t p.element f p.passes)
own_facet role.Individual t h f = absurd (let p = some_passes (λ w. carries w t) (words_of role.Individual) h in facet_carries t p.element f p.passes)

own_mark : (q r : Role) (t : Triple) → is_role role.Facet q ≡ false → is_own r t ≡ true → marks_role q t ≡ true → q ≡ r
own_mark q r t f h k =
    let p = mark_word q t f k in
    elim (or_cases (not (list_any (is_word p.element) (words_of r))) (is_role q r) (passes (λ w. not (list_any (is_word w) (words_of r)) || is_role q r) (mark_words q) p.element (passes (are_own_marks r) marked_roles q (all_own_marks r) (in_marked q t k)) p.inside)) [
      | inl n ↦ absurd (both_ways (list_any (is_word p.element) (words_of r)) (not-true _ n) (own_word r t p.element p.passes h))
      | inr e ↦ same_role q r e
    ]

-- a triple that makes its subject what it is is a mark of its role alone
pub structural_mark : (g : List Triple) (t : Triple) (q : Role) → is_structural g t ≡ true → marks_role q t ≡ true → q ≡ role_of g t.subject
structural_mark g t q h k =
    elim (cases_Bool (is_role role.Facet q)) [
      | inl y ↦
          let same = same_role role.Facet q y in
          sym same ∙ own_facet (role_of g t.subject) t (structural_is_own g t h) (facet_mark t (subst (λ (r : Role). marks_role r t ≡ true) (sym same) k))
      | inr n ↦ own_mark q (role_of g t.subject) t n (structural_is_own g t h) k
    ]

-- A triple that says an axiom is no mark of a node with annotations, nor of the header.

no_axiom_words : list_all (λ w. not (list_any (is_word w) axiom_types || list_any (is_word w) axiom_predicates)) (word.Axiom ∷ word.Annotation ∷ word.Ontology ∷ word.VersionIri ∷ word.Imports ∷ []) ≡ true
unfolding axiom_types axiom_predicates word_number
no_axiom_words = refl

pub says_no_word : (t : Triple) (w : Word) → SaysAxiom t → Contains (word.Axiom ∷ word.Annotation ∷ word.Ontology ∷ word.VersionIri ∷ word.Imports ∷ []) w → carries w t ≡ true → ⊥
says_no_word t w s m c =
    both_ways (list_any (is_word w) axiom_types || list_any (is_word w) axiom_predicates)
    (not-true _ (passes (λ v. not (list_any (is_word v) axiom_types || list_any (is_word v) axiom_predicates)) (word.Axiom ∷ word.Annotation ∷ word.Ontology ∷ word.VersionIri ∷ word.Imports ∷ []) w no_axiom_words m))
    (harmless t s w c).tells

note_word_there : (w : Word) → Contains (mark_words role.Note) w → Contains (word.Axiom ∷ word.Annotation ∷ word.Ontology ∷ word.VersionIri ∷ word.Imports ∷ []) w
note_word_there w m = Contains-append_left (mark_words role.Note) (word.Ontology ∷ word.VersionIri ∷ word.Imports ∷ []) w m

pub says_no_note : (t : Triple) → SaysAxiom t → marks_role role.Note t ≡ true → ⊥
says_no_note t s h = let p = mark_word role.Note t refl h in says_no_word t p.element s (note_word_there p.element p.inside) p.passes

-- The triples that name the ontology are marks of the header alone.

ontology_marks : (q : Role) (x : Term) → marks_role q (link x type_iri (Iri (word_iri word.Ontology))) ≡ is_role q role.Header
unfolding marks_role carries is_type word_iri word_number is_facet encode
ontology_marks role.List x = refl
ontology_marks _ x = refl

version_marks : (q : Role) (x y : Term) → marks_role q (link x (word_iri word.VersionIri) y) ≡ false
unfolding marks_role carries is_type word_iri word_number is_facet encode
version_marks role.List x y = refl
version_marks _ x y = refl

import_marks : (q : Role) (x y : Term) → marks_role q (link x (word_iri word.Imports) y) ≡ false
unfolding marks_role carries is_type word_iri word_number is_facet encode
import_marks role.List x y = refl
import_marks _ x y = refl

abbrev HeaderMark : Role → Triple → Type 0
HeaderMark q t = marks_role q t ≡ true → q ≡ role.Header

import_mark : (q : Role) (x : Term) (imports : List (List ℕ)) (t : Triple) → Contains (map (λ i. link x (word_iri word.Imports) (Iri i)) imports) t → HeaderMark q t
import_mark q x imports t m h =
    let v = from_map (λ i. link x (word_iri word.Imports) (Iri i)) imports t m in
    absurd (both_ways (marks_role q t) (ap (marks_role q) (sym v.value) ∙ import_marks q x (Iri v.element)) h)

type_mark : (q : Role) (x : Term) (t : Triple) → link x type_iri (Iri (word_iri word.Ontology)) ≡ t → HeaderMark q t
type_mark q x t e h = same_role q role.Header (sym (ontology_marks q x) ∙ ap (marks_role q) e ∙ h)

version_mark : (q : Role) (x : Term) (iri : List ℕ) (version : Option (List ℕ)) (imports : List (List ℕ)) (t : Triple) → Contains (head_triples x (record { name = Some (record { iri = iri; version = version }); imports = imports })) t → HeaderMark q t
version_mark q x iri None imports t m h =
    elim (in_cases (link x type_iri (Iri (word_iri word.Ontology))) (map (λ i. link x (word_iri word.Imports) (Iri i)) imports) t m) [
      | inl e ↦ type_mark q x t e h
      | inr k ↦ import_mark q x imports t k h
    ]
version_mark q x iri (Some v) imports t m h =
    let version = link x (word_iri word.VersionIri) (Iri v) in
    let rest = map (λ i. link x (word_iri word.Imports) (Iri i)) imports in
    elim (in_cases (link x type_iri (Iri (word_iri word.Ontology))) (version ∷ rest) t m) [
      | inl e ↦ type_mark q x t e h
      | inr k ↦
          elim (in_cases version rest t k) [
            | inl e ↦ absurd (both_ways (marks_role q t) (ap (marks_role q) (sym e) ∙ version_marks q x (Iri v)) h)
            | inr j ↦ import_mark q x imports t j h
          ]
    ]

name_mark : (q : Role) (x : Term) (name : Option OntologyName) (imports : List (List ℕ)) (t : Triple) → Contains (head_triples x (record { name = name; imports = imports })) t → HeaderMark q t
name_mark q x None imports t m h =
    elim (in_cases (link x type_iri (Iri (word_iri word.Ontology))) (map (λ i. link x (word_iri word.Imports) (Iri i)) imports) t m) [
      | inl e ↦ type_mark q x t e h
      | inr k ↦ import_mark q x imports t k h
    ]
name_mark q x (Some n) imports t m h = version_mark q x n.iri n.version imports t m h

pub head_mark : (q : Role) (x : Term) (h : Head) (t : Triple) → Contains (head_triples x h) t → marks_role q t ≡ true → q ≡ role.Header
head_mark q x h t m k = name_mark q x h.name h.imports t m k
