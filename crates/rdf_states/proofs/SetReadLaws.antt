-- The annotations of each axiom are read back: those of its triple, and those of the nodes that stand for it.
use Rattle.std.proofs.Common.{◌≡◌, ℕ, suc, Bool, true, List, [], ◌∷◌, refl, sym, ap, ◌∙◌, subst}
use Rattle.std.specs.Prelude.{Contains, map}
use Rattle.std.specs.List.{filter, list_all}
use Rattle.std.specs.Ordering.{eq_by_cmp}
use Rattle.std.proofs.lemmas.Bool.{and_from, both_ways, or_right}
use Rattle.std.proofs.lemmas.List.Elements.{Contains-append_left, Contains-append_right}
use Rattle.owl_kind.specs.Kinds.{Entity}
use Rattle.owl_list.specs.Ascending.{HoldSame}
use Rattle.owl_list.proofs.AscendingLaws.{from_map, in_head, in_map, in_tail}
use Rattle.owl_tree.specs.declared.tag.Tag.{Tag}
use Rattle.owl_tree.specs.declared.tag.Tag.TheVariants as tag
use Rattle.owl_tree.specs.Ontologies.{Ontology}
use Rattle.owl_tree.specs.Order.{tree_cmp}
use Rattle.owl_tree.specs.Rows.{is_tag}
use Rattle.owl_tree.specs.Tags.{is_axiom}
use Rattle.owl_tree.specs.Trees.{Tree, Kids, leaf, node, no_kids, kid, kids_in, tag_of}
use Rattle.rdf_graph.specs.declared.term.Term.TheVariants.{Blank}
use Rattle.rdf_graph.specs.declared.triple.Triple.{Triple}
use Rattle.rdf_meaning.specs.declared.role.Role.TheVariants as role
use Rattle.owl_list.proofs.FilterLaws.{from_filter, in_filter}
use Rattle.rdf_meaning.specs.Nodes.{carries_some, role_of, words_of}
use Rattle.rdf_meaning.specs.Statements.{notes_of}
use Rattle.rdf_normal.proofs.NeedlessLaws.{any_if, both_true, equal_trees, says_more_if, tree_is_itself}
use Rattle.rdf_normal.specs.NormalForms.{bears_notes, is_annotated, is_needless, says_more}
use Rattle.rdf_normal.specs.OneTriple.{is_one_triple}
use Rattle.std.specs.List.{list_any}
use Rattle.rdf_mapping.proofs.AsideLaws.{set_root_triples}
use Rattle.rdf_mapping.specs.Drawing.{Statement, statement_of}
use Rattle.rdf_mapping.specs.Entries.{AreEntries, Entry, note_links, note_roots, set_roots}
use Rattle.rdf_mapping.specs.EntryLaws.{link_subjects}
use Rattle.rdf_mapping.specs.Frames.{own_triples}
use Rattle.rdf_mapping.specs.GraphEntries.{group_roots, made_entries, made_nodes, made_others, made_roots, statement_roots}
use Rattle.rdf_mapping.proofs.GraphEntryLaws.{made_drawn}
use Rattle.rdf_mapping.specs.Graphs.{all_labels_in, axiom_notes, bare, bare_axioms, group_of, groups_of, header_nodes, header_term, labels_in, made_triples, notes_from, sets_of}
use Rattle.rdf_mapping.proofs.MainNoteLaws.{main_notes}
use Rattle.rdf_mapping.specs.NoterLaws.{root_subjects}
use Rattle.rdf_mapping.specs.Notes.{Notes, no_notes, notes_in}
use Rattle.rdf_mapping.specs.NoteTrees.{AreAllNotes, no_sets, a_set, AreNotes, AreReadAs, AreSettled, AreVariants, EachSettled}
use Rattle.rdf_mapping.proofs.NoteTreeLaws.{notes_read, readable_notes}
use Rattle.rdf_mapping.specs.PlaceLaws.{root_again, roots_at}
use Rattle.rdf_mapping.proofs.SetLaws.{all_beside, sets_read}
use Rattle.rdf_axioms.specs.AxiomReading.{main_of}
use Rattle.rdf_states.proofs.AnnotationLaws.{each_settled, notes_needed, nothing_inside, readable, settled_notes, tidy_kid}
use Rattle.rdf_states.proofs.GraphOf.{AreReadBack, AreWellDrawn, IsGraphOf, LabelsAreSingle}
use Rattle.rdf_states.proofs.HeadLaws.{root_links}
use Rattle.rdf_states.proofs.MainNodeLaws.{entry_role, stand_apart}
use Rattle.rdf_states.proofs.OnePlaceLaws.{one_main_place, one_stand_place}
use Rattle.rdf_states.proofs.OneTripleLaws.{main_is_one}
use Rattle.rdf_states.specs.Places.{of_main, of_stand, Stand, StandsAt, first_number, notes_at, sets_at, stand_node, stands_of}
use Rattle.rdf_states.specs.PlaceLaws.{IsRootMade, of_header, of_place, made_root, main_roots, group_at, stand_notes, stand_roots}
use Rattle.rdf_states.proofs.ReadLaws.{axiom_single, main_sound, read_at, stand_main, stand_own_words}
use Rattle.rdf_states.proofs.RoleLaws.{note_is_no_main, sound_no_main, sound_no_note}
use Rattle.rdf_states.proofs.SideLaws.{place_axiom, set_beside}
use Rattle.rdf_states.proofs.SortedLaws.{IsNoteProperty, header_property, no_own_assertion}
use Rattle.rdf_states.specs.Stated.{CanBeDrawn, CanBeStated, IsStatedAxiom}
use Rattle.rdf_states.proofs.StatedLaws.{bare_statement, needed_axioms, notes_are, notes_tidy, notes_typed, stated_axiom}

-- the annotations of an axiom, as trees
abbrev pub annotations_of : Tree → List Tree
annotations_of (leaf t a) = []
annotations_of (node t no_kids) = []
annotations_of (node t (kid ns ks)) = kids_in ns

-- the axioms that are this one without their annotations
abbrev pub members : Tree → List Tree → List Tree
members b axioms = filter (λ a. eq_by_cmp tree_cmp (bare a) b) axioms

pub in_members : (axioms : List Tree) (a : Tree) → Contains axioms a → Contains (members (bare a) axioms) a
in_members axioms a m = in_filter (λ c. eq_by_cmp tree_cmp (bare c) (bare a)) axioms a m (tree_is_itself (bare a))

pub from_members : (axioms : List Tree) (b a : Tree) → Contains (members b axioms) a → Contains axioms a × (bare a ≡ b)
from_members axioms b a m = let kept = from_filter (λ c. eq_by_cmp tree_cmp (bare c) b) axioms a m in (kept.inside, equal_trees (bare a) b kept.passes)

-- What is drawn of the annotations of one axiom.
module _ (k : List Entity) (o : Ontology) (g : List Triple) (single : LabelsAreSingle g o) where
  record AreOwn (a : Tree) : Type 0 where
    pub notes : AreNotes g k (annotations_of a) (axiom_notes a)
    pub settled : AreSettled (axiom_notes a)
    pub each : EachSettled (axiom_notes a)

  own_annotations : (a : Tree) → Contains o.axioms a → IsStatedAxiom k o a → AreOwn a
  own_annotations a m is =
      let t = is.tree in
      let tidy = notes_tidy k o a is in
      let first = node tag.Notes t.notes in
      let labels : (label : List ℕ) → Contains (all_labels_in t.notes) label → role_of g (Blank label) ≡ role.Individual =
      λ label i. axiom_single g o single a m label (subst (λ (b : Tree). Contains (labels_in b) label) (sym t.is) (Contains-append_left (all_labels_in t.notes) (all_labels_in t.kids) label i)) in
      subst AreOwn (sym t.is) (record {
        notes = readable_notes g k t.notes (readable g k t.notes t.annotations (notes_typed k o a is) labels);
        settled = settled_notes t.notes t.annotations (notes_needed t.notes tidy);
        each = each_settled t.notes t.annotations (λ u j. tidy_kid tag.Notes t.notes u tidy j);
      })

  all_own : (c : CanBeDrawn k o) (cs : List Tree) → ((a : Tree) → Contains cs a → Contains o.axioms a) → AreAllNotes g k (map annotations_of cs) (map axiom_notes cs)
  all_own c [] h = no_sets
  all_own c (a ∷ cs) h =
      let m = h a (in_head a cs) in
      let own = own_annotations a m (stated_axiom k o c a m) in
      a_set (annotations_of a) (axiom_notes a) (map annotations_of cs) (map axiom_notes cs) own.notes own.settled own.each (all_own c cs (λ b n. h b (in_tail a cs b n)))

-- An axiom that one triple says has no bare one beside it.
module _ (k : List Entity) (o : Ontology) (c : CanBeDrawn k o) where
  annotated_tree : (t : Tag) (n : Tree) (ns ks : Kids) → is_axiom t ≡ true → is_annotated (node t (kid (node tag.Notes (kid n ns)) ks)) ≡ true
  annotated_tree t n ns ks h = both_true (bears_notes t) true (or_right (is_tag tag.Annotation t) (is_axiom t) h) refl

  bare_alone : (b : Tree) (t : Tag) (ns ks : Kids) → Contains o.axioms b → is_one_triple b ≡ true → is_axiom t ≡ true → Contains o.axioms (node t (kid (node tag.Notes ns) ks)) → node t (kid (node tag.Notes no_kids) ks) ≡ b → ns ≡ no_kids
  bare_alone b t no_kids ks m one h i e = refl
  bare_alone b t (kid n ns) ks m one h i e =
      let more = node t (kid (node tag.Notes (kid n ns)) ks) in
      let says : says_more b more ≡ true = subst (λ (x : Tree). says_more x more ≡ true) e (says_more_if more (annotated_tree t n ns ks h)) in
      absurd (both_ways (is_needless o.axioms b) (needed_axioms k o c b m) (both_true (is_one_triple b) (list_any (says_more b) o.axioms) one (any_if (says_more b) o.axioms more i says)))

  pub sets_settled : (b : Tree) → ((a : Tree) → Contains o.axioms a → bare a ≡ b → is_one_triple a ≡ true) → Contains (sets_of b o.axioms) no_notes → (ns : Notes) → Contains (sets_of b o.axioms) ns → ns ≡ no_notes
  sets_settled b one i ns j =
      let x = from_map axiom_notes (members b o.axioms) no_notes i in
      let y = from_map axiom_notes (members b o.axioms) ns j in
      let p = from_members o.axioms b x.element x.inside in
      let q = from_members o.axioms b y.element y.inside in
      let u = (stated_axiom k o c x.element p.0).tree in
      let is = stated_axiom k o c y.element q.0 in
      let v = is.tree in
      let empty = nothing_inside u.notes u.annotations (sym (notes_are x.element u) ∙ x.value) in
      let whole : x.element ≡ b = u.is ∙ ap (λ (ls : Kids). node u.own_tag (kid (node tag.Notes ls) u.kids)) empty ∙ sym (ap bare u.is) ∙ p.1 in
      let there = subst (λ (a : Tree). Contains o.axioms a) whole p.0 in
      let single_one = subst (λ (a : Tree). is_one_triple a ≡ true) whole (one x.element p.0 p.1) in
      let axiom_tag : is_axiom v.own_tag ≡ true = ap is_axiom (sym (ap tag_of v.is)) ∙ is.sayable.is.tag in
      let none = bare_alone b v.own_tag v.notes v.kids there single_one axiom_tag (subst (λ (a : Tree). Contains o.axioms a) v.is q.0) (sym (ap bare v.is) ∙ q.1) in
      sym y.value ∙ notes_are y.element v ∙ ap notes_in none

all_from_each : {X : Type 0} (test : X → Bool) (xs : List X) → ((x : X) → Contains xs x → test x ≡ true) → list_all test xs ≡ true
all_from_each test [] h = refl
all_from_each test (x ∷ xs) h = and_from (test x) (list_all test xs) (h x (in_head x xs)) (all_from_each test xs (λ y m. h y (in_tail x xs y m)))

module _ (k : List Entity) (o : Ontology) (c : CanBeStated k o) (name : ℕ → List ℕ) (g : List Triple) (d : IsGraphOf name g o) (drawn : AreWellDrawn name o) (single : LabelsAreSingle g o) (read : AreReadBack name g k o) (are : AreEntries name g (made_entries name o)) where
  abbrev es : List Entry
  es = made_entries name o

  -- what reifies a triple of no such node is drawn as a root
  again : (f : Entry) → Contains es f → (role_of g f.triple.subject ≡ role.Note → ⊥) → IsRootMade name o f
  again f m no_note =
      made_root name o f
      (root_again name (header_nodes o.head.name) (made_nodes o) (made_others name o) (made_roots name o) es (made_triples name o) (made_drawn name o) f m
      (λ e n s. no_note (ap (role_of g) s ∙ entry_role k o c.can_be_drawn name g d drawn single read are e n)))

  place_roots : (b : Tree) (m : ℕ) (p : StandsAt o b m) (f : Entry) → Contains (statement_roots name (statement_of b) (sets_of b o.axioms) m) f → Contains es f
  place_roots b m p f i =
      (made_drawn name o).root f
      (Contains-append_right (note_roots (header_term name o.head.name) (notes_from o.annotations) (header_nodes o.head.name)) (group_roots name (groups_of o.axioms) (first_number o)) f
      (roots_at name (group_of o.axioms b) m (groups_of o.axioms) (first_number o) (group_at o.axioms b m (bare_axioms o.axioms) (first_number o) p) f i))

  -- The triple of an axiom has the sets of annotations of the axioms that are this one without them.

  main_root : (b : Tree) (m : ℕ) (p : StandsAt o b m) (t : Triple) → Contains (main_of name (statement_of b) m) t → (f : Entry) → f.triple ≡ t → IsRootMade name o f → Contains (set_roots t (sets_of b o.axioms) (sets_at (statement_of b) m)) f
  main_root b m p t i f e (of_header j) =
      let x = header_term name o.head.name in
      let link = root_links x (notes_from o.annotations) (header_nodes o.head.name) f j in
      let property = header_property k o c.can_be_drawn x f.triple link in
      let at : t.subject ≡ x = ap (λ (u : Triple). u.subject) (sym e) ∙ link_subjects x (notes_from o.annotations) f.triple link in
      let its = subst (λ (u : Triple). IsNoteProperty k u.predicate) e property in
      absurd (no_own_assertion k o c name g d drawn single read are b m p t i at its.free its.property)
  main_root b m p t i f e (of_place a l q (of_main u j h)) =
      let same : u ≡ t = set_root_triples name (made_nodes o) u (sets_of a o.axioms) (sets_at (statement_of a) l) f h ∙ e in
      let place = one_main_place k o c name g d drawn single read a b l m q p t (subst (λ (v : Triple). Contains (main_of name (statement_of a) l) v) same j) i in
      subst (λ (n : ℕ). Contains (set_roots t (sets_of b o.axioms) (sets_at (statement_of b) n)) f) place.1
      (subst (λ (x : Tree). Contains (set_roots t (sets_of x o.axioms) (sets_at (statement_of x) l)) f) place.0
      (subst (λ (v : Triple). Contains (set_roots v (sets_of a o.axioms) (sets_at (statement_of a) l)) f) same h))
  main_root b m p t i f e (of_place a l q (of_stand s j h)) =
      let at : t.subject ≡ stand_node name s = ap (λ (u : Triple). u.subject) (sym e) ∙ root_subjects (stand_node name s) s.notes (notes_at s) f h in
      absurd (sound_no_main g t.subject (main_sound k o c.can_be_drawn name g d drawn single read b m p t i).0 (ap (role_of g) at ∙ stand_main k o c.can_be_drawn name g d drawn single read a l q s j))

  one_at_place : (b : Tree) (m : ℕ) (t : Triple) → Contains (main_of name (statement_of b) m) t → (a : Tree) → bare a ≡ b → is_one_triple a ≡ true
  one_at_place b m t i a e =
      main_is_one name a m t (subst (λ (s : Statement). Contains (main_of name s m) t) (sym (ap statement_of e) ∙ bare_statement a) i)

  pub main_variants : (b : Tree) (m : ℕ) (p : StandsAt o b m) (t : Triple) → Contains (main_of name (statement_of b) m) t → AreVariants g k t (map annotations_of (members b o.axioms))
  main_variants b m p t i =
      let a = place_axiom o b m p in
      let sets = sets_of b o.axioms in
      let n = sets_at (statement_of b) m in
      let among : Contains (members b o.axioms) a.0 = subst (λ (x : Tree). Contains (members x o.axioms) a.0) a.2 (in_members o.axioms a.0 a.1) in
      sets_read name g d.apart es are k t (map annotations_of (members b o.axioms)) sets n
      (all_own k o g single c.can_be_drawn (members b o.axioms) (λ x j. (from_members o.axioms b x j).0))
      (sets_settled k o c.can_be_drawn b (λ x j e. one_at_place b m t i x e))
      (λ f j. place_roots b m p f (subst (λ (rs : List Entry). Contains rs f) (sym (main_roots name (statement_of b) sets m t i)) j))
      (λ f j e. main_root b m p t i f e (again f j (λ r. sound_no_note g t.subject (main_sound k o c.can_be_drawn name g d drawn single read b m p t i).0 (ap (λ (u : Triple). role_of g u.subject) (sym e) ∙ r))))
      (annotations_of a.0) (in_map annotations_of (members b o.axioms) a.0 among)

  -- A node that stands for an axiom has its annotations.

  stand_root : (b : Tree) (m : ℕ) (p : StandsAt o b m) (e : Stand) → Contains (stands_of (statement_of b) (sets_of b o.axioms) m) e → (f : Entry) → f.triple.subject ≡ stand_node name e → IsRootMade name o f → Contains (note_roots (stand_node name e) e.notes (notes_at e)) f
  stand_root b m p e i f at (of_header j) =
      absurd (stand_apart name g o d b m p e i (sym at ∙ root_subjects (header_term name o.head.name) (notes_from o.annotations) (header_nodes o.head.name) f j))
  stand_root b m p e i f at (of_place a l q (of_main u j h)) =
      let same = set_root_triples name (made_nodes o) u (sets_of a o.axioms) (sets_at (statement_of a) l) f h in
      let its : u.subject ≡ stand_node name e = ap (λ (v : Triple). v.subject) same ∙ at in
      absurd (sound_no_main g u.subject (main_sound k o c.can_be_drawn name g d drawn single read a l q u j).0 (ap (role_of g) its ∙ stand_main k o c.can_be_drawn name g d drawn single read b m p e i))
  stand_root b m p e i f at (of_place a l q (of_stand s j h)) =
      let same = one_stand_place name g o d a b l m q p s e j i (sym (root_subjects (stand_node name s) s.notes (notes_at s) f h) ∙ at) in
      subst (λ (x : Stand). Contains (note_roots (stand_node name x) x.notes (notes_at x)) f) same.stand h

  pub stand_links : (b : Tree) (m : ℕ) (p : StandsAt o b m) (e : Stand) → Contains (stands_of (statement_of b) (sets_of b o.axioms) m) e → HoldSame (notes_of g (stand_node name e)) (note_links (stand_node name e) e.notes)
  stand_links b m p e i =
      let x = stand_node name e in
      let words = all_from_each (carries_some (words_of role.Main)) (own_triples name x e.arcs (suc e.number)) (stand_own_words k o c.can_be_drawn name g d drawn single read b m p e i) in
      let beside = all_beside e.notes (set_beside k o c.can_be_drawn b e.notes (stand_notes (statement_of b) (sets_of b o.axioms) m e i)) in
      main_notes g x (own_triples name x e.arcs (suc e.number)) e.notes (stand_main k o c.can_be_drawn name g d drawn single read b m p e i) words beside ((read_at k o c.can_be_drawn name g d drawn single read b m p).own e i)

  pub stand_read : (b : Tree) (m : ℕ) (p : StandsAt o b m) (e : Stand) → Contains (stands_of (statement_of b) (sets_of b o.axioms) m) e → (a : Tree) → Contains o.axioms a → axiom_notes a ≡ e.notes → AreReadAs g k (notes_of g (stand_node name e)) (annotations_of a)
  stand_read b m p e i a in_axioms same =
      let x = stand_node name e in
      let main = stand_main k o c.can_be_drawn name g d drawn single read b m p e i in
      let own = own_annotations k o g single a in_axioms (stated_axiom k o c.can_be_drawn a in_axioms) in
      notes_read name g d.apart es are k x (annotations_of a) e.notes (notes_at e) (notes_of g x)
      (subst (AreNotes g k (annotations_of a)) same own.notes) (subst AreSettled same own.settled) (subst EachSettled same own.each)
      (stand_links b m p e i)
      (λ f j. place_roots b m p f (stand_roots name (statement_of b) (sets_of b o.axioms) m e f i j))
      (λ f j h.
      let at = link_subjects x e.notes f.triple h in
      stand_root b m p e i f at (again f j (λ r. note_is_no_main (sym main ∙ ap (role_of g) (sym at) ∙ r))))
