-- The triples of a graph of the ontology are sorted, and its header is read back.
use lib.Utf8.{encode}
use Rattle.std.proofs.Common.{◌≡◌, ◌+◌, ◌⊎◌, ℕ, true, false, List, [], ◌∷◌, ◌++◌, inl, inr, refl, ap, ◌∙◌, subst, arith}
use Rattle.std.specs.Prelude.{Contains, Option, None, Some}
use Rattle.std.specs.List.{list_any}
use Rattle.std.proofs.lemmas.Bool.{both_ways}
use Rattle.std.proofs.lemmas.List.Elements.{Contains-append_cases, Contains-append_left}
use Rattle.owl_doc.specs.Entities.{AreWellTyped, entities, entities_of, kind_of}
use Rattle.owl_doc.specs.Heads.{iri_in}
use Rattle.owl_kind.specs.declared.kind.Kind.TheVariants as kind
use Rattle.owl_kind.specs.Kinds.{Entity, HasKind}
use Rattle.owl_list.specs.Ascending.{HoldSame}
use Rattle.owl_list.proofs.AscendingLaws.{in_cases, in_head, in_none}
use Rattle.owl_tree.specs.declared.atom.Atom.TheVariants as atom
use Rattle.owl_tree.specs.declared.tag.Tag.TheVariants as tag
use Rattle.owl_tree.specs.Ontologies.{Ontology, OntologyName}
use Rattle.owl_tree.specs.Trees.{Tree, Kids, leaf, kids_of}
use Rattle.rdf_graph.specs.declared.term.Term.{Term}
use Rattle.rdf_graph.specs.declared.term.Term.TheVariants.{Iri}
use Rattle.rdf_graph.specs.declared.triple.Triple.{Triple}
use Rattle.rdf_meaning.specs.declared.role.Role.{Role}
use Rattle.rdf_meaning.specs.declared.role.Role.TheVariants as role
use Rattle.rdf_meaning.specs.declared.word.Word.TheVariants as word
use Rattle.rdf_meaning.specs.Kinds.{has_kind}
use Rattle.rdf_meaning.proofs.KindLaws.{has_kind_is}
use Rattle.rdf_meaning.specs.Nodes.{carries, is_iri, is_structural, is_word, role_of, type_iri, words_of}
use Rattle.rdf_meaning.specs.Statements.{headers, main_triples}
use Rattle.rdf_meaning.specs.Words.{is_type, word_iri, word_number}
use Rattle.rdf_normal.specs.NormalForms.{is_about}
use Rattle.rdf_mapping.specs.Drawing.{Statement, linked, linked_back, looped, standing, unsaid, statement_of}
use Rattle.rdf_mapping.specs.Entries.{AreAllDeclarable, AreEntries, Entry, IsOfEntry, entry_node, entry_triples, note_links}
use Rattle.rdf_mapping.specs.EntryLaws.{entry_subjects, link_subjects}
use Rattle.rdf_mapping.specs.Forms.{link, nodes, term_of}
use Rattle.rdf_mapping.specs.Frames.{IsForeign, Lies, by_word, is_node_word}
use Rattle.rdf_mapping.proofs.GroupFrameLaws.{starts}
use Rattle.rdf_mapping.specs.GroupFrames.{StatesApart}
use Rattle.rdf_mapping.proofs.FreeLaws.{property_free}
use Rattle.rdf_mapping.specs.GraphEntries.{made_entries, made_nodes}
use Rattle.rdf_mapping.specs.Graphs.{head_triples, header_term, notes_from, sets_of, statement_nodes}
use Rattle.rdf_mapping.proofs.HeaderLaws.{one_header}
use Rattle.rdf_mapping.proofs.MainLaws.{says_main}
use Rattle.rdf_mapping.proofs.NoAxiomLaws.{head_named, header_note, noted_aside}
use Rattle.rdf_mapping.specs.NoteLaws.{beside_links, reifying_structural}
use Rattle.rdf_mapping.specs.Notes.{Notes, no_notes, note, notes_in, reifying}
use Rattle.rdf_mapping.proofs.SetLaws.{all_beside}
use Rattle.rdf_mapping.proofs.SortLaws.{mains_are}
use Rattle.rdf_mapping.specs.Sorts.{AreSorted, HasHeader, IsAside, of_annotations, of_header, of_node, IsFree, IsMain, annotation_property}
use Rattle.rdf_mapping.proofs.WholeFrameLaws.{head_subject}
use Rattle.rdf_axioms.specs.AxiomReading.{main_of}
use Rattle.rdf_mapping.proofs.TreeDrawingLaws.{all_back, all_front}
use Rattle.rdf_states.specs.Annotations.{AreAnnotations, none, one, annotation_of}
use Rattle.rdf_states.proofs.AnnotationLaws.{declarable}
use Rattle.rdf_states.proofs.GraphOf.{AreReadBack, AreWellDrawn, IsGraphOf, LabelsAreSingle}
use Rattle.rdf_states.proofs.MainNodeLaws.{entry_role, header_apart}
use Rattle.rdf_states.proofs.MarkLaws.{says_no_word, structural_word}
use Rattle.rdf_states.proofs.OwnAssertionLaws.{about_iri}
use Rattle.rdf_states.specs.Places.{IsMade, of_head, of_header_note, of_axiom, at_end, is_main, at_node, at_note, StandsAt, mains_of, stand_node}
use Rattle.rdf_states.specs.PlaceLaws.{from_mains, in_mains, made_cases, stand_notes, stands_bounds}
use Rattle.rdf_states.proofs.ReadLaws.{end_structural, main_sound, read_at, stand_main, stand_structural}
use Rattle.rdf_states.proofs.RoleLaws.{sound_no_main, sound_no_note}
use Rattle.rdf_states.proofs.SideLaws.{header_place, place_drawn, place_says, set_beside}
use Rattle.rdf_states.specs.Stated.{CanBeDrawn, CanBeStated}
use Rattle.rdf_states.proofs.StatedLaws.{annotations_are, annotations_said, notes_from_kids, stated_axiom}

-- The annotations of the header are those of annotation properties, which mean nothing else.

pub record IsNoteProperty (k : List Entity) (p : List ℕ) : Type 0 where
  pub free : IsFree p
  pub property : has_kind k kind.AnnotationProperty p ≡ true

abbrev AreNoteProperties : List Entity → Notes → Type 0
AreNoteProperties k no_notes = Unit {0}
AreNoteProperties k (note p v inside more) = IsNoteProperty k p × AreNoteProperties k more

property_typed : (k : List Entity) (p : List ℕ) (rest : List Entity) → AreWellTyped k (entities (leaf tag.AnnotationProperty (atom.Iri p)) ++ rest) → has_kind k kind.AnnotationProperty p ≡ true
unfolding kind_of
property_typed k p rest t = (has_kind_is k kind.AnnotationProperty p).1 t.0

note_properties : (k : List Entity) (ks : Kids) → AreAnnotations ks → AreAllDeclarable (notes_in ks) → AreWellTyped k (entities_of ks) → AreNoteProperties k (notes_in ks)
note_properties k _ (none) d t = tt
note_properties k _ (one p value v ns ks is inner more) d t =
    let tree = annotation_of p value v ns in
    let own = all_front (λ e. HasKind k e.kind e.iri) (entities tree) (entities_of ks) t in
    let behind = all_back (λ e. HasKind k e.kind e.iri) (entities_of ns) _ own in (
      record { free = property_free kind.AnnotationProperty annotation_property p d.0; property = property_typed k p _ behind },
      note_properties k ks more d.1.1 (all_back (λ e. HasKind k e.kind e.iri) (entities tree) (entities_of ks) t),
    )

link_property : (k : List Entity) (x : Term) (ns : Notes) (t : Triple) → AreNoteProperties k ns → Contains (note_links x ns) t → IsNoteProperty k t.predicate
link_property k x no_notes t h m = absurd (in_none t m)
link_property k x (note p v inside more) t h m =
    elim (in_cases (link x p v) (note_links x more) t m) [
      | inl e ↦ subst (λ (u : Triple). IsNoteProperty k u.predicate) e h.0
      | inr n ↦ link_property k x more t h.1 n
    ]

pub header_property : (k : List Entity) (o : Ontology) → CanBeDrawn k o → (x : Term) (t : Triple) → Contains (note_links x (notes_from o.annotations)) t → IsNoteProperty k t.predicate
header_property k o c x t m =
    let ks = kids_of o.annotations in
    link_property k x (notes_in ks) t (note_properties k ks (annotations_are k o c) (declarable ks (annotations_are k o c) (annotations_said k o c)) c.typed_annotations)
    (subst (λ (ns : Notes). Contains (note_links x ns) t) (notes_from_kids o.annotations) m)

-- The triple of an axiom that begins at the header begins at an IRI.

at_only : (P : Term → Type 0) (s t : Triple) → P s.subject → Contains (s ∷ []) t → P t.subject
at_only P s t h m = elim (in_cases s [] t m) [ inl e ↦ subst (λ (u : Triple). P u.subject) e h | inr z ↦ absurd (in_none t z) ]

main_place : (name : ℕ → List ℕ) (most : ℕ) (s : Statement) (sets : List Notes) (n : ℕ) (t : Triple) → StatesApart name most s → Contains (main_of name s n) t → Lies name n (n + statement_nodes s sets) t.subject ⊎ IsForeign name most t.subject
main_place name most (linked f p q) sets n t h m =
    let high = n + statement_nodes (linked f p q) sets in
    at_only (λ x. Lies name n high x ⊎ IsForeign name most x) (link (term_of name f n) p (term_of name q (n + nodes f))) t (starts name most f n n high h (omega arith) (omega arith)) m
main_place name most (linked_back f p q) sets n t h m =
    let high = n + statement_nodes (linked_back f p q) sets in
    at_only (λ x. Lies name n high x ⊎ IsForeign name most x) (link (term_of name q (n + nodes f)) p (term_of name f n)) t (starts name most q (n + nodes f) n high h (omega arith) (omega arith)) m
main_place name most (looped p f) sets n t h m =
    let high = n + statement_nodes (looped p f) sets in
    at_only (λ x. Lies name n high x ⊎ IsForeign name most x) (link (term_of name f n) p (term_of name f n)) t (starts name most f n n high h (omega arith) (omega arith)) m
main_place name most (standing arcs) sets n t h m = absurd (in_none t m)
main_place name most unsaid sets n t h m = absurd (in_none t m)

header_iri : (name : ℕ → List ℕ) (n : Option OntologyName) → is_iri (header_term name n) ≡ true → (iri : List ℕ) × (header_term name n ≡ Iri iri) × (iri_in n ≡ Some iri)
header_iri name None h = absurd (both_ways false refl h)
header_iri name (Some n) h = (n.iri, refl, refl)

-- no word of the header is one of a node's own
ontology_words : (r : Role) → list_any (is_word word.Ontology) (words_of r) ≡ false
unfolding words_of word_number
ontology_words role.List = refl
ontology_words _ = refl

ontology_is_word : is_node_word word.Ontology ≡ true
unfolding is_node_word word_number
ontology_is_word = refl

ontology_carried : (x : Term) → carries word.Ontology (link x type_iri (Iri (word_iri word.Ontology))) ≡ true
unfolding carries is_type word_iri word_number encode
ontology_carried x = refl

module _ (k : List Entity) (o : Ontology) (c : CanBeStated k o) (name : ℕ → List ℕ) (g : List Triple) (d : IsGraphOf name g o) (drawn : AreWellDrawn name o) (single : LabelsAreSingle g o) (read : AreReadBack name g k o) (are : AreEntries name g (made_entries name o)) where
  abbrev header : Term
  header = header_term name o.head.name

  -- no annotation property leads from the header in an axiom
  pub no_own_assertion : (b : Tree) (m : ℕ) → StandsAt o b m → (t : Triple) → Contains (main_of name (statement_of b) m) t → t.subject ≡ header → IsFree t.predicate → has_kind k kind.AnnotationProperty t.predicate ≡ true → ⊥
  no_own_assertion b m p t i at free property =
      let w = place_drawn name o drawn b m p in
      let bounds = stands_bounds o b m p in
      elim (header_place name o.head.name) [
        | inr l ↦
            elim (main_place name (made_nodes o) (statement_of b) (sets_of b o.axioms) m t w.apart i) [
              | inl r ↦ header_apart name g o d t.subject m (m + statement_nodes (statement_of b) (sets_of b o.axioms)) (let h = bounds.0 in omega (arith, h)) bounds.1 r at
              | inr f ↦ f l.number (let h = l.below in omega (arith, h)) (at ∙ l.is)
            ]
        | inl h ↦
            let iri = header_iri name o.head.name h in
            let r = read_at k o c.can_be_drawn name g d drawn single read b m p in
            let is = stated_axiom k o c.can_be_drawn r.tree r.inside in
            let about = about_iri g k c.no_clash t r.tree is.tree is.sayable.is.shaped r.read.kids (r.main t i) r.read.equivalent iri.0 (at ∙ iri.1) free property in
            both_ways (is_about (iri_in o.head.name) r.tree) is.other (ap (λ (n : Option (List ℕ)). is_about n r.tree) iri.2 ∙ about)
      ]

  -- the triple of an axiom is a main triple
  pub main_is_main : (b : Tree) (m : ℕ) → StandsAt o b m → (t : Triple) → Contains (main_of name (statement_of b) m) t → IsMain g k header t
  main_is_main b m p t i =
      let ends = main_sound k o c.can_be_drawn name g d drawn single read b m p t i in
      says_main g k header t (place_says name o drawn b m p t i) (no_own_assertion b m p t i) (sound_no_main g t.subject ends.0) (sound_no_note g t.subject ends.0)

  entry_aside : (t : Triple) → IsOfEntry name (made_entries name o) t → IsAside g k header t
  entry_aside t f =
      noted_aside g k header t (inr (ap (role_of g) (entry_subjects name f.entry t f.inside) ∙ entry_role k o c.can_be_drawn name g d drawn single read are f.entry f.among))

  made_sorted : (t : Triple) → IsMade name o t → Contains (mains_of name o) t ⊎ IsAside g k header t
  made_sorted t (of_head i) = inr (of_header (head_named header o.head t i))
  made_sorted t (of_header_note i) =
      let p = header_property k o c.can_be_drawn header t i in
      inr (of_annotations (header_note g k header t (link_subjects header (notes_from o.annotations) t i) p.free p.property))
  made_sorted t (of_axiom b m p (at_end e i j)) = inr (of_node (end_structural k o c.can_be_drawn name g d drawn single read b m p e i t j).1)
  made_sorted t (of_axiom b m p (is_main i)) = inl (in_mains o.axioms name b m _ _ p t i)
  made_sorted t (of_axiom b m p (at_node e i j)) = inr (of_node (stand_structural k o c.can_be_drawn name g d drawn single read b m p e i t j).1)
  made_sorted t (of_axiom b m p (at_note e i j)) =
      inr (noted_aside g k header t (inl (ap (role_of g) (link_subjects (stand_node name e) e.notes t j) ∙ stand_main k o c.can_be_drawn name g d drawn single read b m p e i)))

  -- each triple of the graph is an axiom, or aside
  pub are_sorted : AreSorted g k header (mains_of name o)
  are_sorted = record {
    cases = λ t m. elim (made_cases name o t ((d.holds t).0 m)) [ inl own ↦ made_sorted t own | inr f ↦ inr (entry_aside t f) ];
    there = λ t m. let r = from_mains o.axioms name _ _ t m in (read_at k o c.can_be_drawn name g d drawn single read r.0 r.1 r.2).there t r.3;
    main = λ t m. let r = from_mains o.axioms name _ _ t m in main_is_main r.0 r.1 r.2 t r.3;
  }

  pub main_triples_are : HoldSame (main_triples g k header) (mains_of name o)
  main_triples_are = mains_are g k header (mains_of name o) are_sorted

  -- The header.

  no_structural_ontology : (t : Triple) → is_structural g t ≡ true → carries word.Ontology t ≡ true → ⊥
  no_structural_ontology t s h = both_ways (list_any (is_word word.Ontology) (words_of (role_of g t.subject))) (ontology_words (role_of g t.subject)) (structural_word g t word.Ontology s h)

  entry_no_ontology : (e : Entry) → Contains (made_entries name o) e → (t : Triple) → Contains (entry_triples name e) t → carries word.Ontology t ≡ true → ⊥
  entry_no_ontology e m t i h =
      elim (Contains-append_cases (reifying e.word (entry_node name e) e.triple) (note_links (entry_node name e) e.notes) t i) [
        | inl a ↦ no_structural_ontology t (reifying_structural name g d.apart e (are.said e m) (are.own e m) t a) h
        | inr b ↦ beside_links (entry_node name e) e.notes t (are.said e m).beside b (by_word word.Ontology ontology_is_word h)
      ]

  made_ontology : (t : Triple) → IsMade name o t → carries word.Ontology t ≡ true → t.subject ≡ header
  made_ontology t (of_head i) h = head_subject header o.head t i
  made_ontology t (of_header_note i) h = link_subjects header (notes_from o.annotations) t i
  made_ontology t (of_axiom b m p (at_end e i j)) h = absurd (no_structural_ontology t (end_structural k o c.can_be_drawn name g d drawn single read b m p e i t j).1 h)
  made_ontology t (of_axiom b m p (is_main i)) h = absurd (says_no_word t word.Ontology (place_says name o drawn b m p t i) (2, omega arith, refl) h)
  made_ontology t (of_axiom b m p (at_node e i j)) h = absurd (no_structural_ontology t (stand_structural k o c.can_be_drawn name g d drawn single read b m p e i t j).1 h)
  made_ontology t (of_axiom b m p (at_note e i j)) h =
      absurd (beside_links (stand_node name e) e.notes t (all_beside e.notes (set_beside k o c.can_be_drawn b e.notes (stand_notes (statement_of b) (sets_of b o.axioms) m e i))) j (by_word word.Ontology ontology_is_word h))

  pub in_head_triples : (t : Triple) → Contains (head_triples header o.head) t → Contains g t
  in_head_triples t i = (d.holds t).1 (Contains-append_left (head_triples header o.head) _ t i)

  has_header : HasHeader g header
  has_header =
      let t = link header type_iri (Iri (word_iri word.Ontology)) in
      record {
        triple = t;
        inside = in_head_triples t (in_head t _);
        subject = refl;
        typed = ontology_carried header;
        only = λ u m h.
            elim (made_cases name o u ((d.holds u).0 m)) [
              | inl own ↦ made_ontology u own h
              | inr f ↦ absurd (entry_no_ontology f.entry f.among u f.inside h)
            ];
      }

  pub one_header_is : headers g ≡ header ∷ []
  one_header_is = one_header g header has_header
