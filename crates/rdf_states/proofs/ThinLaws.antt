-- No triple of the graph of an ontology is redundant in it.
use lib.Utf8.{encode}
use Rattle.std.proofs.Common.{◌≡◌, ◌≤◌, ◌+◌, ◌*◌, ◌^◌, ℕ, true, false, List, length, inl, inr, refl, sym, ap, ◌∙◌, subst}
use Rattle.std.specs.Prelude.{Contains}
use Rattle.std.specs.List.{list_any}
use Rattle.std.proofs.lemmas.Bool.{and_parts, both_ways, false_from_ne_true, or_left}
use Rattle.std.proofs.lemmas.List.Elements.{Contains-append_cases}
use Rattle.blank_labels.specs.FreshLabels.{fresh_name}
use Rattle.owl_arena.specs.Shared.{heaviest}
use Rattle.owl_kind.specs.declared.kind.Kind.TheVariants as kind
use Rattle.owl_kind.specs.Kinds.{Entity}
use Rattle.owl_list.proofs.AscendingLaws.{in_cases, in_none}
use Rattle.owl_tree.specs.Ontologies.{IsOntology, Ontology, ontology_weight}
use Rattle.owl_tree.specs.Trees.{Tree, tag_of}
use Rattle.rdf_graph.specs.declared.term.Term.{Term}
use Rattle.rdf_graph.specs.declared.term.Term.TheVariants.{Iri, Blank, Literal}
use Rattle.rdf_graph.specs.declared.triple.Triple.{Triple}
use Rattle.rdf_meaning.specs.declared.role.Role.{Role}
use Rattle.rdf_meaning.specs.declared.role.Role.TheVariants as role
use Rattle.rdf_meaning.specs.declared.word.Word.{Word}
use Rattle.rdf_meaning.specs.declared.word.Word.TheVariants as word
use Rattle.rdf_meaning.specs.Kinds.{has_kind, may_be_declared}
use Rattle.rdf_meaning.proofs.ListLaws.{some_passes}
use Rattle.rdf_meaning.proofs.NodeLaws.{same_iri_term}
use Rattle.rdf_meaning.specs.Nodes.{carries, carries_some, is_blank, is_facet, is_iri, is_same, is_structural, is_word, marks_role, role_of, type_iri, words_of}
use Rattle.rdf_meaning.specs.Rows.{node_rows}
use Rattle.rdf_meaning.specs.Sound.{IsSoundBelow}
use Rattle.rdf_meaning.specs.Statements.{HasRow, IsPartOfAxiom, IsSoundAs, header_words, is_header_triple}
use Rattle.rdf_meaning.specs.Words.{is_type, word_iri, word_number}
use Rattle.rdf_normal.specs.NormalForms.{normal_form, unsettled_annotations, unsettled_axioms}
use Rattle.rdf_normal.proofs.AgainLaws.{normal_again}
use Rattle.rdf_normal.proofs.ShapedLaws.{normal_is_ontology}
use Rattle.rdf_normal.proofs.TidiedLaws.{settled_form}
use Rattle.rdf_sayable.specs.Sayable.{CanSayAll}
use Rattle.rdf_mapping.specs.Drawing.{statement_of}
use Rattle.rdf_mapping.specs.Entries.{AreBeside, AreEntries, Entry, entry_node, entry_triples, note_links}
use Rattle.rdf_mapping.specs.Forms.{link}
use Rattle.rdf_mapping.specs.Frames.{IsOfNode, by_facet, by_word, is_node_word}
use Rattle.rdf_mapping.specs.GraphEntries.{made_entries, made_nodes}
use Rattle.rdf_mapping.specs.Graphs.{graph_of, header_term, labels_of, notes_from, sets_of}
use Rattle.rdf_mapping.proofs.MainLaws.{harmless}
use Rattle.rdf_mapping.proofs.NoAxiomLaws.{head_named}
use Rattle.rdf_mapping.specs.NoteLaws.{reifying_structural}
use Rattle.rdf_mapping.specs.Notes.{Notes, no_notes, note, reifying}
use Rattle.rdf_mapping.specs.OwnLaws.{any_from}
use Rattle.rdf_mapping.proofs.SetLaws.{all_beside}
use Rattle.rdf_mapping.proofs.SortLaws.{structural_of_node}
use Rattle.rdf_mapping.proofs.SpellingLaws.{carried}
use Rattle.rdf_axioms.specs.AxiomReading.{main_of}
use Rattle.rdf_states.proofs.CountLaws.{few_labels}
use Rattle.rdf_states.proofs.GraphOf.{AreReadBack, AreWellDrawn, IsDrawnBy, IsGraphOf, LabelsAreSingle}
use Rattle.rdf_states.proofs.GraphStatesLaws.{entries, graph_is, single as graph_single}
use Rattle.rdf_states.proofs.MarkLaws.{structural_mark, structural_word}
use Rattle.rdf_states.proofs.NormalStatesLaws.{form_said}
use Rattle.rdf_states.proofs.OntologyLaws.{all_drawn, all_read, fresh_drawn}
use Rattle.rdf_states.proofs.OwnKindLaws.{own_axioms_typed, own_declarable, own_kinds, own_notes_typed}
use Rattle.rdf_states.proofs.PartNodeLaws.{part_node, part_sound}
use Rattle.rdf_states.specs.Places.{IsMade, of_head, of_header_note, of_axiom, at_end, is_main, at_node, at_note, StandsAt, stand_node}
use Rattle.rdf_states.specs.PlaceLaws.{made_cases, stand_notes}
use Rattle.rdf_states.proofs.ReadLaws.{end_structural, read_at, stand_structural}
use Rattle.rdf_states.proofs.RedundantLaws.{IsBeside, old, restriction, inverse, IsRedundant, beside_type, carries_class, carries_property, no_blank_property, no_class_restriction, old_no_class, old_no_word, old_types, redundant, type_is_class, word_object}
use Rattle.rdf_states.proofs.SideLaws.{header_beside, place_says, set_beside}
use Rattle.rdf_states.specs.Stated.{CanBeDrawn}
use Rattle.rdf_states.specs.UnderLaws.{sound_is}
use Rattle.rdf_thin.proofs.ThinnedLaws.{none_redundant}
use Rattle.rdf_thin.specs.Thinned.{is_redundant, thinned}

-- no annotation is a type

class_of_node : (x : Term) → IsOfNode (link x type_iri (Iri (word_iri word.Class)))
unfolding is_node_word words_of word_number carries is_type word_iri encode
class_of_node x = by_word word.Class refl refl

beside_no_type : (x : Term) (ns : Notes) (t : Triple) → AreBeside ns → Contains (note_links x ns) t → t.predicate ≡ type_iri → ⊥
beside_no_type x no_notes t b m e = in_none t m
beside_no_type x (note p v inside more) t b m e =
    elim (in_cases (link x p v) (note_links x more) t m) [
      | inl s ↦ b.0 (link x type_iri (Iri (word_iri word.Class))) (sym e ∙ ap (λ (u : Triple). u.predicate) (sym s)) (class_of_node x)
      | inr n ↦ beside_no_type x more t b.1 n e
    ]

-- What a type in the graph is: it makes a node what it is, names the ontology, or is the triple of an axiom.
data IsTyping (name : ℕ → List ℕ) (g : List Triple) (o : Ontology) (t : Triple) : Type 0 where
  of_node : is_structural g t ≡ true → IsTyping name g o t
  of_header : carries_some header_words t ≡ true → IsTyping name g o t
  says : (b : Tree) (m : ℕ) → StandsAt o b m → Contains (main_of name (statement_of b) m) t → IsTyping name g o t

named_by_word : (x : Term) (t : Triple) → is_header_triple x t ≡ true → carries_some header_words t ≡ true
unfolding is_header_triple
named_by_word x t h = (and_parts (is_same t.subject x) (carries_some header_words t) h).1

no_facet_type : is_facet type_iri ≡ false
unfolding is_facet encode
no_facet_type = refl

-- a word that no node or header has

header_word : (v : Word) (t : Triple) → carries v t ≡ true → carries_some header_words t ≡ true → list_any (is_word v) header_words ≡ true
header_word v t c h =
    let p = some_passes (λ w. carries w t) header_words h in any_from (is_word v) header_words p.element p.inside (sym (carried v p.element t p.passes) ∙ c)

no_header_class : list_any (is_word word.Class) header_words ≡ false
unfolding word_number
no_header_class = refl

no_header_property : list_any (is_word word.ObjectProperty) header_words ≡ false
unfolding word_number
no_header_property = refl

no_node_property : (r : Role) → list_any (is_word word.ObjectProperty) (words_of r) ≡ false
unfolding words_of word_number
no_node_property role.List = refl
no_node_property _ = refl

class_is_word : is_node_word word.Class ≡ true
unfolding is_node_word words_of word_number
class_is_word = refl

class_mark : (t : Triple) → carries word.Class t ≡ true → marks_role role.Class t ≡ true
unfolding marks_role
class_mark t c = or_left (carries word.Class t) _ c

blank_label : (x : Term) → is_blank x ≡ true → (label : List ℕ) × (x ≡ Blank label)
blank_label (Blank label) h = (label, refl)
blank_label (Iri iri) h = absurd (both_ways false refl h)
blank_label (Literal literal) h = absurd (both_ways false refl h)

no_blank_iri : (x : Term) → is_blank x ≡ true → is_iri x ≡ true → ⊥
no_blank_iri (Iri iri) h i = both_ways false refl h
no_blank_iri (Blank label) h i = both_ways false refl i
no_blank_iri (Literal literal) h i = both_ways false refl i

module _ (k : List Entity) (o : Ontology) (c : CanBeDrawn k o) (name : ℕ → List ℕ) (g : List Triple) (d : IsGraphOf name g o) (drawn : AreWellDrawn name o) (single : LabelsAreSingle g o) (read : AreReadBack name g k o) (are : AreEntries name g (made_entries name o)) where
  abbrev header : Term
  header = header_term name o.head.name

  made_typing : (t : Triple) → t.predicate ≡ type_iri → IsMade name o t → IsTyping name g o t
  made_typing t e (of_head i) = of_header (named_by_word header t (head_named header o.head t i))
  made_typing t e (of_header_note i) = absurd (beside_no_type header (notes_from o.annotations) t (all_beside (notes_from o.annotations) (header_beside k o c)) i e)
  made_typing t e (of_axiom b m p (at_end f i j)) = of_node (end_structural k o c name g d drawn single read b m p f i t j).1
  made_typing t e (of_axiom b m p (is_main i)) = says b m p i
  made_typing t e (of_axiom b m p (at_node f i j)) = of_node (stand_structural k o c name g d drawn single read b m p f i t j).1
  made_typing t e (of_axiom b m p (at_note f i j)) =
      absurd (beside_no_type (stand_node name f) f.notes t (all_beside f.notes (set_beside k o c b f.notes (stand_notes (statement_of b) (sets_of b o.axioms) m f i))) j e)

  entry_typing : (f : Entry) → Contains (made_entries name o) f → (t : Triple) → t.predicate ≡ type_iri → Contains (entry_triples name f) t → IsTyping name g o t
  entry_typing f m t e i =
      elim (Contains-append_cases (reifying f.word (entry_node name f) f.triple) (note_links (entry_node name f) f.notes) t i) [
        | inl j ↦ of_node (reifying_structural name g d.apart f (are.said f m) (are.own f m) t j)
        | inr j ↦ absurd (beside_no_type (entry_node name f) f.notes t (are.said f m).beside j e)
      ]

  typing : (t : Triple) → Contains g t → t.predicate ≡ type_iri → IsTyping name g o t
  typing t m e =
      elim (made_cases name o t ((d.holds t).0 m)) [ inl own ↦ made_typing t e own | inr f ↦ entry_typing f.entry f.among t e f.inside ]

  -- a node that is a class is of one of the rows
  class_has_row : (x : Term) → is_blank x ≡ true → role.Class ≡ role_of g x → HasRow g node_rows x
  class_has_row x h is =
      let found = blank_label x h in
      let part : IsPartOfAxiom (role_of g (Blank found.0)) = subst IsPartOfAxiom (is ∙ ap (role_of g) found.1) tt in
      let sound = part_sound k o c name g d drawn single read are (Blank found.0) part (part_node k o c name g d drawn single read are found.0 part) in
      elim (sound_is g x (subst (IsSoundBelow g) (sym found.1) sound)) [
        | inl alone ↦ absurd (class_no_individual (is ∙ alone))
        | inr s ↦ subst (λ (r : Role). IsSoundAs g r x) (sym is) s.sound
      ]
    where
      class_no_individual : role.Class ≡ role.Individual → ⊥
      class_no_individual e = cc

  no_restriction : (t u : Triple) → IsTyping name g o t → Contains g t → carries word.Class t ≡ true → is_blank t.subject ≡ true → Contains g u → u.subject ≡ t.subject → carries word.Restriction u ≡ true → ⊥
  no_restriction t u (of_node s) m h b n at r =
      let is = structural_mark g t role.Class s (class_mark t h) in
      no_class_restriction g t.subject is (class_has_row t.subject b is) t u m refl h n at r
  no_restriction t u (of_header i) m h b n at r = both_ways (list_any (is_word word.Class) header_words) no_header_class (header_word word.Class t h i)
  no_restriction t u (says a l p i) m h b n at r = no_blank_iri t.subject b ((harmless t (place_says name o drawn a l p t i) word.Class h).at_iri class_is_word)

  no_inverse : (t : Triple) → IsTyping name g o t → t.predicate ≡ type_iri → t.object ≡ Iri (word_iri word.ObjectProperty) → is_blank t.subject ≡ true → ⊥
  no_inverse t (of_node s) e at b =
      both_ways (list_any (is_word word.ObjectProperty) (words_of (role_of g t.subject))) (no_node_property (role_of g t.subject)) (structural_word g t word.ObjectProperty s (carries_property t e at))
  no_inverse t (of_header i) e at b =
      both_ways (list_any (is_word word.ObjectProperty) header_words) no_header_property (header_word word.ObjectProperty t (carries_property t e at) i)
  no_inverse t (says a l p i) e at b =
      let r = read_at k o c name g d drawn single read a l p in
      no_blank_property g k t e (tag_of r.tree) r.read.kids (r.main t i) at b

  -- Where classes may be declared, no type is an old one.
  module _ (declarable : (iri : List ℕ) → has_kind k kind.Class iri ≡ true → may_be_declared kind.Class iri ≡ true) where
    word_is_old : (t : Triple) (class : List ℕ) (w : Word) → t.predicate ≡ type_iri → Contains old_types class → t.object ≡ Iri class → carries w t ≡ true → ⊥
    word_is_old t class w e m at h = old_no_word class w m (same_iri_term class (word_iri w) (sym at ∙ word_object w t h e))

    node_is_old : (t : Triple) (class : List ℕ) → t.predicate ≡ type_iri → Contains old_types class → t.object ≡ Iri class → IsOfNode t → ⊥
    node_is_old t class e m at (by_word w n h) = word_is_old t class w e m at h
    node_is_old t class e m at (by_facet f) = both_ways (is_facet t.predicate) (ap is_facet e ∙ no_facet_type) f

    no_old : (t : Triple) (class : List ℕ) → IsTyping name g o t → t.predicate ≡ type_iri → Contains old_types class → t.object ≡ Iri class → ⊥
    no_old t class (of_node s) e m at = node_is_old t class e m at (structural_of_node g t s)
    no_old t class (of_header i) e m at =
        let p = some_passes (λ w. carries w t) header_words i in word_is_old t class p.element e m at p.passes
    no_old t class (says a l p i) e m at =
        let r = read_at k o c name g d drawn single read a l p in
        old_no_class class m (declarable class (type_is_class g k t e (tag_of r.tree) r.read.kids (r.main t i) class at (λ w. old_no_word class w m)))

    no_redundant : (t : Triple) → Contains g t → is_redundant g t ≡ true → ⊥
    no_redundant t m h = let r = redundant g t h in by r (beside_type t.subject t.object r.word r.among)
      where
        by : (r : IsRedundant g t) → IsBeside t.subject t.object r.word → ⊥
        by r (old class i at) = no_old t class (typing t m r.type) r.type i at
        by r (restriction b at w) =
            no_restriction t r.beside (typing t m r.type) m (carries_class t r.type at) b r.inside r.subject (subst (λ (v : Word). carries v r.beside ≡ true) w r.carried)
        by r (inverse b at) = no_inverse t (typing t m r.type) r.type at b

    graph_thinned : thinned g ≡ g
    graph_thinned = none_redundant g (λ t m. false_from_ne_true (is_redundant g t) (no_redundant t m))

-- The graph of an ontology in normal form of which all can be said is its own thinned graph, whatever its nodes are called.
pub drawing_is_thin : (o : Ontology) (name : ℕ → List ℕ) (g : List Triple) → IsDrawnBy name g o → IsOntology o → normal_form o ≡ o → CanSayAll o → made_nodes o + length (labels_of o) ≤ 9 * 10 ^ 18 → thinned g ≡ g
drawing_is_thin o name g d is normal said few =
    let k = own_kinds o in
    let c : CanBeDrawn k o = record {
      is_ontology = is;
      normal = normal;
      sayable = said;
      typed_annotations = own_notes_typed o;
      typed_axioms = own_axioms_typed o;
      few = few;
    } in
    let drawn = all_drawn k o c name g d in
    let read = all_read k o c name g d in
    graph_thinned k o c name g (graph_is k o c name g d drawn) drawn (graph_single k o c name g d drawn) read (entries k o c name g d drawn read) (own_declarable o said kind.Class)

pub graph_is_thin : (o : Ontology) → IsOntology o → normal_form o ≡ o → CanSayAll o → made_nodes o + length (labels_of o) ≤ 9 * 10 ^ 18 → thinned (graph_of o) ≡ graph_of o
graph_is_thin o is normal said few = drawing_is_thin o (fresh_name (labels_of o)) (graph_of o) (fresh_drawn o few) is normal said few

-- and so is that of a normal form
pub form_is_thin : (o : Ontology) → IsOntology o → CanSayAll o → ontology_weight (normal_form o) ≤ heaviest → thinned (graph_of (normal_form o)) ≡ graph_of (normal_form o)
form_is_thin o is said light =
    graph_is_thin (normal_form o) (normal_is_ontology o is) (normal_again o is) (form_said o said)
    (few_labels (normal_form o) light (settled_form (unsettled_annotations o)) (settled_form (unsettled_axioms o)))
