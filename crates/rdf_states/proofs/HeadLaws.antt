-- The head of the ontology and its annotations are read back from the header.
use lib.Utf8.{encode}
use Rattle.std.proofs.Common.{◌≡◌, ◌≤◌, ◌+◌, ◌⊎◌, ℕ, suc, true, false, List, [], ◌∷◌, ◌++◌, length, inl, inr, refl, sym, ap, ◌∙◌, subst, arith}
use Rattle.std.specs.Prelude.{Contains, map, Option, None, Some}
use Rattle.std.specs.List.{filter}
use Rattle.std.proofs.lemmas.Bool.{both_ways}
use Rattle.std.proofs.lemmas.List.Elements.{Contains-append_cases, Contains-append_left, Contains-append_right}
use Rattle.owl_kind.specs.Kinds.{Entity}
use Rattle.owl_list.specs.Ascending.{HoldSame}
use Rattle.owl_list.proofs.AscendingLaws.{from_map, in_cases, in_head, in_map, in_none, in_tail}
use Rattle.owl_tree.specs.Ontologies.{Head, IsSameHead, Ontology, OntologyName}
use Rattle.owl_tree.proofs.TreeLaws.{list_of_kids_of}
use Rattle.owl_tree.specs.Trees.{Tree, kids_of, list_of}
use Rattle.rdf_graph.specs.declared.term.Term.{Term}
use Rattle.rdf_graph.specs.declared.term.Term.TheVariants.{Iri, Blank, Literal}
use Rattle.rdf_graph.specs.declared.triple.Triple.{Triple}
use Rattle.rdf_meaning.specs.declared.word.Word.{Word}
use Rattle.rdf_meaning.specs.declared.word.Word.TheVariants as word
use Rattle.owl_list.proofs.FilterLaws.{from_filter, in_filter}
use Rattle.rdf_meaning.proofs.NodeLaws.{chosen_is, from_subject, in_chosen, in_subject}
use Rattle.rdf_meaning.specs.Nodes.{carries, chosen, is_same, of_subject, type_iri}
use Rattle.rdf_meaning.specs.Statements.{IsHeadOf, unnamed, named, header_notes, is_header_triple, only}
use Rattle.rdf_meaning.specs.Words.{is_type, word_iri, word_number}
use Rattle.rdf_mapping.proofs.AsideLaws.{set_root_triples}
use Rattle.rdf_mapping.specs.Drawing.{statement_of}
use Rattle.rdf_mapping.specs.Entries.{AreEntries, Entry, entry, note_links, note_roots}
use Rattle.rdf_mapping.specs.EntryLaws.{link_subjects, notes_drawn}
use Rattle.rdf_mapping.specs.Forms.{link}
use Rattle.rdf_mapping.proofs.FreeLaws.{free_carries}
use Rattle.rdf_mapping.specs.GraphEntries.{made_entries, made_nodes, made_others, made_roots}
use Rattle.rdf_mapping.proofs.GraphEntryLaws.{made_drawn}
use Rattle.rdf_mapping.specs.Graphs.{all_labels_in, group_triples, groups_of, head_triples, header_nodes, header_term, import_triples, labels_in, made_triples, notes_from, sets_of, version_of, version_triples}
use Rattle.rdf_mapping.proofs.HeaderLaws.{notes_are}
use Rattle.rdf_mapping.proofs.NoAxiomLaws.{head_named}
use Rattle.rdf_mapping.specs.Notes.{Notes, no_notes, note, note_nodes, note_triples, where_some}
use Rattle.rdf_mapping.specs.NoteTrees.{AreNotes, AreReadAs, AreSettled, EachSettled}
use Rattle.rdf_mapping.proofs.NoteTreeLaws.{notes_read, readable_notes}
use Rattle.rdf_mapping.specs.NoterLaws.{root_subjects, some_root}
use Rattle.rdf_mapping.specs.OwnLaws.{apart_filter, same_few}
use Rattle.rdf_mapping.specs.PlaceLaws.{root_again}
use Rattle.rdf_mapping.specs.Sorts.{IsMain}
use Rattle.rdf_mapping.proofs.WholeFrameLaws.{head_subject}
use Rattle.rdf_axioms.specs.AxiomReading.{main_of}
use Rattle.rdf_states.proofs.AnnotationLaws.{AreNeeded, each_settled, readable, settled_notes}
use Rattle.rdf_states.proofs.GraphOf.{AreReadBack, AreWellDrawn, IsGraphOf, LabelsAreSingle}
use Rattle.rdf_states.proofs.MainNodeLaws.{IsAtHeader, names, annotates, says, at_header, entry_apart, header_no_main, header_no_note, stand_apart}
use Rattle.rdf_states.proofs.MarkLaws.{says_no_word}
use Rattle.rdf_states.specs.Places.{of_main, of_stand, notes_at, sets_at, stand_node}
use Rattle.rdf_states.specs.PlaceLaws.{IsRootMade, of_header, of_place, made_root}
use Rattle.rdf_states.proofs.ReadLaws.{annotation_single}
use Rattle.rdf_states.proofs.SideLaws.{place_says}
use Rattle.rdf_states.proofs.SortedLaws.{header_property, in_head_triples, main_is_main, no_own_assertion}
use Rattle.rdf_states.specs.Stated.{CanBeStated}
use Rattle.rdf_states.proofs.StatedLaws.{annotations_are, annotations_tidy, needed_annotations, notes_from_kids}

-- What the triples that name an ontology carry.

abbrev type_link : Term → Triple
type_link x = link x type_iri (Iri (word_iri word.Ontology))

abbrev version_link : Term → Term → Triple
version_link x y = link x (word_iri word.VersionIri) y

abbrev import_link : Term → Term → Triple
import_link x y = link x (word_iri word.Imports) y

type_no_version : (x : Term) → carries word.VersionIri (type_link x) ≡ false
unfolding carries is_type word_iri word_number encode
type_no_version x = refl

type_no_import : (x : Term) → carries word.Imports (type_link x) ≡ false
unfolding carries is_type word_iri word_number encode
type_no_import x = refl

version_carries : (x y : Term) → carries word.VersionIri (version_link x y) ≡ true
unfolding carries is_type word_iri word_number encode
version_carries x y = refl

version_no_import : (x y : Term) → carries word.Imports (version_link x y) ≡ false
unfolding carries is_type word_iri word_number encode
version_no_import x y = refl

import_carries : (x y : Term) → carries word.Imports (import_link x y) ≡ true
unfolding carries is_type word_iri word_number encode
import_carries x y = refl

import_no_version : (x y : Term) → carries word.VersionIri (import_link x y) ≡ false
unfolding carries is_type word_iri word_number encode
import_no_version x y = refl

carries_not : (w : Word) (t u : Triple) → t ≡ u → carries w t ≡ false → carries w u ≡ true → ⊥
carries_not w t u e f h = both_ways (carries w u) (ap (carries w) (sym e) ∙ f) h

version_is : (x : Term) (v : Option (List ℕ)) (t : Triple) → Contains (version_triples x v) t → (iri : List ℕ) × (version_link x (Iri iri) ≡ t)
version_is x None t m = absurd (in_none t m)
version_is x (Some iri) t m = elim (in_cases (version_link x (Iri iri)) [] t m) [ inl e ↦ (iri, e) | inr z ↦ absurd (in_none t z) ]

import_is : (x : Term) (imports : List (List ℕ)) (t : Triple) → Contains (import_triples x imports) t → (i : List ℕ) × Contains imports i × (import_link x (Iri i) ≡ t)
import_is x imports t m = let v = from_map (λ i. import_link x (Iri i)) imports t m in (v.element, v.inside, v.value)

head_cases : (x : Term) (h : Head) (t : Triple) → Contains (head_triples x h) t → (type_link x ≡ t) ⊎ (Contains (version_triples x (version_of h.name)) t ⊎ Contains (import_triples x h.imports) t)
head_cases x h t m =
    elim (in_cases (type_link x) (version_triples x (version_of h.name) ++ import_triples x h.imports) t m) [
      | inl e ↦ inl e
      | inr i ↦ inr (Contains-append_cases (version_triples x (version_of h.name)) (import_triples x h.imports) t i)
    ]

head_version : (x : Term) (h : Head) (t : Triple) → Contains (head_triples x h) t → carries word.VersionIri t ≡ true → Contains (version_triples x (version_of h.name)) t
head_version x h t m c =
    elim (head_cases x h t m) [
      | inl e ↦ absurd (carries_not word.VersionIri (type_link x) t e (type_no_version x) c)
      | inr i ↦
          elim i [
            | inl j ↦ j
            | inr j ↦ let v = import_is x h.imports t j in absurd (carries_not word.VersionIri (import_link x (Iri v.0)) t v.2 (import_no_version x (Iri v.0)) c)
          ]
    ]

head_import : (x : Term) (h : Head) (t : Triple) → Contains (head_triples x h) t → carries word.Imports t ≡ true → Contains (import_triples x h.imports) t
head_import x h t m c =
    elim (head_cases x h t m) [
      | inl e ↦ absurd (carries_not word.Imports (type_link x) t e (type_no_import x) c)
      | inr i ↦
          elim i [
            | inl j ↦ let v = version_is x (version_of h.name) t j in absurd (carries_not word.Imports (version_link x (Iri v.0)) t v.1 (version_no_import x (Iri v.0)) c)
            | inr j ↦ j
          ]
    ]

in_versions : (x : Term) (h : Head) (t : Triple) → Contains (version_triples x (version_of h.name)) t → Contains (head_triples x h) t
in_versions x h t m =
    in_tail (type_link x) (version_triples x (version_of h.name) ++ import_triples x h.imports) t (Contains-append_left (version_triples x (version_of h.name)) (import_triples x h.imports) t m)

in_imports : (x : Term) (h : Head) (t : Triple) → Contains (import_triples x h.imports) t → Contains (head_triples x h) t
in_imports x h t m =
    in_tail (type_link x) (version_triples x (version_of h.name) ++ import_triples x h.imports) t (Contains-append_right (version_triples x (version_of h.name)) (import_triples x h.imports) t m)

-- As lists of IRIs.

abbrev version_list : Option (List ℕ) → List (List ℕ)
version_list None = []
version_list (Some iri) = iri ∷ []

version_objects : (x : Term) (v : Option (List ℕ)) → map (λ (t : Triple). t.object) (version_triples x v) ≡ map Iri (version_list v)
version_objects x None = refl
version_objects x (Some iri) = refl

one_version : (x : Term) (v : Option (List ℕ)) → length (version_triples x v) ≤ 1
one_version x None = omega arith
one_version x (Some iri) = omega arith

only_version : (v : Option (List ℕ)) → only (version_list v) v
only_version None = tt
only_version (Some iri) = refl

abbrev iris_in : List Term → List (List ℕ)
iris_in [] = []
iris_in (Iri iri ∷ xs) = iri ∷ iris_in xs
iris_in (Blank label ∷ xs) = iris_in xs
iris_in (Literal literal ∷ xs) = iris_in xs

-- terms that are IRIs are those of their IRIs
all_iris : (xs : List Term) → ((x : Term) → Contains xs x → (iri : List ℕ) × (x ≡ Iri iri)) → xs ≡ map Iri (iris_in xs)
all_iris [] h = refl
all_iris (Iri iri ∷ xs) h = ap (λ (ys : List Term). Iri iri ∷ ys) (all_iris xs (λ x m. h x (in_tail (Iri iri) xs x m)))
all_iris (Blank label ∷ xs) h = absurd (let e = (h (Blank label) (in_head (Blank label) xs)).1 in cc)
all_iris (Literal literal ∷ xs) h = absurd (let e = (h (Literal literal) (in_head (Literal literal) xs)).1 in cc)

from_iri : (iris : List (List ℕ)) (i : List ℕ) → Contains (map Iri iris) (Iri i) → Contains iris i
from_iri iris i m = let v = from_map Iri iris (Iri i) m in let same : v.element ≡ i = (let e = v.value in cc) in subst (λ (j : List ℕ). Contains iris j) same v.inside

head_by_name : (name : ℕ → List ℕ) (g : List Triple) (n : Option OntologyName) (imports : List (List ℕ)) → chosen g (header_term name n) word.VersionIri ≡ map Iri (version_list (version_of n)) → chosen g (header_term name n) word.Imports ≡ map Iri imports → IsHeadOf g (header_term name n) (record { name = n; imports = imports })
head_by_name name g None imports v e = unnamed (name 0) imports v e
head_by_name name g (Some n) imports v e = named n.iri n.version imports (version_list n.version) v (only_version n.version) e

kid_labels : (ts : List Tree) (label : List ℕ) → Contains (all_labels_in (kids_of ts)) label → (t : Tree) × Contains ts t × Contains (labels_in t) label
kid_labels [] label m = absurd (in_none label m)
kid_labels (t ∷ ts) label m =
    elim (Contains-append_cases (labels_in t) (all_labels_in (kids_of ts)) label m) [
      | inl i ↦ (t, in_head t ts, i)
      | inr i ↦ let r = kid_labels ts label i in (r.0, in_tail t ts r.0 r.1, r.2)
    ]

-- a node that reifies an annotation of a term
pub root_links : (x : Term) (ns : Notes) (n : ℕ) (f : Entry) → Contains (note_roots x ns n) f → Contains (note_links x ns) f.triple
root_links x no_notes n f m = absurd (in_none f m)
root_links x (note p v inside more) n f m =
    let first = link x p v in
    let rest = note_links x more in
    elim (Contains-append_cases (where_some inside [] (entry n word.Annotation first inside ∷ [])) (note_roots x more (n + where_some inside 0 (suc (note_nodes inside)))) f m) [
      | inl i ↦ subst (λ (u : Triple). Contains (first ∷ rest) u) (ap (λ (e : Entry). e.triple) (some_root inside (entry n word.Annotation first inside) f i)) (in_head first rest)
      | inr i ↦ in_tail first rest f.triple (root_links x more (n + where_some inside 0 (suc (note_nodes inside))) f i)
    ]

module _ (k : List Entity) (o : Ontology) (c : CanBeStated k o) (name : ℕ → List ℕ) (g : List Triple) (d : IsGraphOf name g o) (drawn : AreWellDrawn name o) (single : LabelsAreSingle g o) (read : AreReadBack name g k o) (are : AreEntries name g (made_entries name o)) where
  abbrev header : Term
  header = header_term name o.head.name

  -- what names the ontology alone carries these words at the header
  header_word : (w : Word) → Contains (word.Axiom ∷ word.Annotation ∷ word.Ontology ∷ word.VersionIri ∷ word.Imports ∷ []) w → (t : Triple) → Contains g t → t.subject ≡ header → carries w t ≡ true → Contains (head_triples header o.head) t
  header_word w i t m at h = by (at_header name g o d t m at)
    where
      by : IsAtHeader name o t → Contains (head_triples header o.head) t
      by (names j) = j
      by (annotates j) = absurd (free_carries t.predicate (header_property k o c.can_be_drawn header t j).free t refl w h)
      by (says b l p j) = absurd (says_no_word t w (place_says name o drawn b l p t j) i h)

  versions_same : HoldSame (filter (carries word.VersionIri) (of_subject g header)) (version_triples header (version_of o.head.name))
  versions_same t = (
    λ m.
        let kept = from_filter (carries word.VersionIri) (of_subject g header) t m in
        let at = from_subject g header t kept.inside in
        head_version header o.head t (header_word word.VersionIri (3, omega arith, refl) t at.0 at.1 kept.passes) kept.passes,
    λ m.
        let v = version_is header (version_of o.head.name) t m in
        let there = in_versions header o.head t m in
        in_filter (carries word.VersionIri) (of_subject g header) t (in_subject g header t (in_head_triples k o c name g d drawn single read are t there) (head_subject header o.head t there))
        (ap (carries word.VersionIri) (sym v.1) ∙ version_carries header (Iri v.0)),
  )

  version_chosen : chosen g header word.VersionIri ≡ map Iri (version_list (version_of o.head.name))
  unfolding chosen
  version_chosen =
      ap (map (λ (t : Triple). t.object))
      (same_few (filter (carries word.VersionIri) (of_subject g header)) (version_triples header (version_of o.head.name)) versions_same
      (apart_filter (carries word.VersionIri) (of_subject g header) (apart_filter (λ t. is_same t.subject header) g d.apart)) (one_version header (version_of o.head.name)))
      ∙ version_objects header (version_of o.head.name)

  chosen_import : (y : Term) → Contains (chosen g header word.Imports) y → (i : List ℕ) × Contains o.head.imports i × (y ≡ Iri i)
  chosen_import y m =
      let is = (chosen_is g header word.Imports y).0 m in
      let v = import_is header o.head.imports is.triple (head_import header o.head is.triple (header_word word.Imports (4, omega arith, refl) is.triple is.inside is.subject is.carries) is.carries) in
      (v.0, v.1, sym is.object ∙ ap (λ (t : Triple). t.object) (sym v.2))

  import_chosen : (i : List ℕ) → Contains o.head.imports i → Contains (chosen g header word.Imports) (Iri i)
  import_chosen i m =
      let t = import_link header (Iri i) in
      let there = in_imports header o.head t (in_map (λ j. import_link header (Iri j)) o.head.imports i m) in
      in_chosen g header word.Imports t (in_head_triples k o c name g d drawn single read are t there) refl (import_carries header (Iri i))

  -- the imports, in the order of the graph
  abbrev pub imports_read : List (List ℕ)
  imports_read = iris_in (chosen g header word.Imports)

  imports_are : chosen g header word.Imports ≡ map Iri imports_read
  imports_are = all_iris (chosen g header word.Imports) (λ x m. let v = chosen_import x m in (v.0, v.2))

  imports_same : HoldSame o.head.imports imports_read
  imports_same i = (
    λ m. from_iri imports_read i (subst (λ (xs : List Term). Contains xs (Iri i)) imports_are (import_chosen i m)),
    λ m.
        let v = chosen_import (Iri i) (subst (λ (xs : List Term). Contains xs (Iri i)) (sym imports_are) (in_map Iri imports_read i m)) in
        let same : v.0 ≡ i = (let e = v.2 in cc) in
        subst (λ (j : List ℕ). Contains o.head.imports j) same v.1,
  )

  abbrev pub head_read : Head
  head_read = record { name = o.head.name; imports = imports_read }

  pub header_is_head : IsHeadOf g header head_read
  header_is_head = head_by_name name g o.head.name imports_read version_chosen imports_are

  pub same_head : IsSameHead o.head head_read
  same_head = record { name = refl; imports = imports_same }

  -- The annotations of the ontology.

  abbrev own_notes : Notes
  own_notes = notes_from o.annotations

  pub notes_there : (t : Triple) → Contains (note_links header own_notes) t → Contains g t
  notes_there t m =
      let triples = note_triples name header own_notes (header_nodes o.head.name) in
      let rest = group_triples name (groups_of o.axioms) (header_nodes o.head.name + note_nodes own_notes) in
      (d.holds t).1
      (Contains-append_right (head_triples header o.head) (triples ++ rest) t (Contains-append_left triples rest t ((notes_drawn name header own_notes (header_nodes o.head.name)).other t m)))

  pub header_notes_are : HoldSame (header_notes g k header) (note_links header own_notes)
  header_notes_are =
      notes_are g k header (note_links header own_notes) (header_no_main k o c.can_be_drawn name g d drawn single read are) (header_no_note k o c.can_be_drawn name g d drawn single read are)
      (λ t m.
      let p = header_property k o c.can_be_drawn header t m in
      (notes_there t m, record { subject = link_subjects header own_notes t m; free = p.free; property = p.property }))
      (λ t m at. by t (at_header name g o d t m at))
    where
      by : (t : Triple) → IsAtHeader name o t → Contains (note_links header own_notes) t ⊎ ((is_header_triple header t ≡ true) ⊎ IsMain g k header t)
      by t (names j) = inr (inl (head_named header o.head t j))
      by t (annotates j) = inl j
      by t (says b l p j) = inr (inr (main_is_main k o c name g d drawn single read are b l p t j))

  header_readable : AreNotes g k o.annotations own_notes
  header_readable =
      subst (λ (ts : List Tree). AreNotes g k ts own_notes) (list_of_kids_of o.annotations)
      (subst (AreNotes g k (list_of (kids_of o.annotations))) (sym (notes_from_kids o.annotations))
      (readable_notes g k (kids_of o.annotations)
      (readable g k (kids_of o.annotations) (annotations_are k o c.can_be_drawn) c.can_be_drawn.typed_annotations
      (λ label m. let t = kid_labels o.annotations label m in annotation_single g o single t.0 t.1 label t.2))))

  header_settled : AreSettled own_notes
  header_settled =
      subst AreSettled (sym (notes_from_kids o.annotations))
      (settled_notes (kids_of o.annotations) (annotations_are k o c.can_be_drawn) (subst AreNeeded (sym (list_of_kids_of o.annotations)) (needed_annotations k o c.can_be_drawn)))

  header_each_settled : EachSettled own_notes
  header_each_settled =
      subst EachSettled (sym (notes_from_kids o.annotations))
      (each_settled (kids_of o.annotations) (annotations_are k o c.can_be_drawn) (λ t m. annotations_tidy k o c.can_be_drawn t (subst (λ (ts : List Tree). Contains ts t) (list_of_kids_of o.annotations) m)))

  -- what reifies an annotation of the header is drawn there
  header_roots : (f : Entry) → Contains (made_entries name o) f → Contains (note_links header own_notes) f.triple → Contains (note_roots header own_notes (header_nodes o.head.name)) f
  header_roots f m i =
      let at = link_subjects header own_notes f.triple i in
      by (made_root name o f
      (root_again name (header_nodes o.head.name) (made_nodes o) (made_others name o) (made_roots name o) (made_entries name o) (made_triples name o) (made_drawn name o) f m
      (λ e n s. entry_apart name g o d e n (sym s ∙ at))))
    where
      by : IsRootMade name o f → Contains (note_roots header own_notes (header_nodes o.head.name)) f
      by (of_header j) = j
      by (of_place b l p (of_main t j h)) =
          let same = set_root_triples name (made_nodes o) t (sets_of b o.axioms) (sets_at (statement_of b) l) f h in
          let p' = header_property k o c.can_be_drawn header f.triple i in
          absurd (no_own_assertion k o c name g d drawn single read are b l p f.triple (subst (λ (u : Triple). Contains (main_of name (statement_of b) l) u) same j) (link_subjects header own_notes f.triple i) p'.free p'.property)
      by (of_place b l p (of_stand e j h)) =
          absurd (stand_apart name g o d b l p e j (sym (root_subjects (stand_node name e) e.notes (notes_at e) f h) ∙ link_subjects header own_notes f.triple i))

  pub annotations_read : AreReadAs g k (header_notes g k header) o.annotations
  annotations_read =
      notes_read name g d.apart (made_entries name o) are k header o.annotations own_notes (header_nodes o.head.name) (header_notes g k header) header_readable header_settled header_each_settled header_notes_are
      (λ f m. (made_drawn name o).root f (Contains-append_left (note_roots header own_notes (header_nodes o.head.name)) _ f m))
      header_roots
