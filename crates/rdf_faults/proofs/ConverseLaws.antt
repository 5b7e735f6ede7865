-- A graph says an ontology exactly where it has none of the faults.
use Rattle.std.specs.Prelude.{◌≡◌, ℕ, true, ◌&&◌, IsTrue, List, [], ◌∷◌, ◌++◌, Contains}
use Rattle.std.proofs.Common.{refl}
use Rattle.std.proofs.lemmas.Bool.{and_parts, false_from_ne_true}
use Rattle.owl_list.proofs.AscendingLaws.{hold_same}
use Rattle.owl_kind.specs.Kinds.{Entity}
use Rattle.owl_tree.specs.Ontologies.{Head, Ontology}
use Rattle.owl_tree.proofs.OntologyLaws.{equivalent_lists}
use Rattle.owl_tree.specs.Trees.{Tree}
use Rattle.rdf_graph.specs.declared.term.Term.{Term}
use Rattle.rdf_graph.specs.declared.term.Term.TheVariants.{Iri, Blank, Literal}
use Rattle.rdf_graph.specs.declared.triple.Triple.{Triple}
use Rattle.owl_list.proofs.FilterLaws.{from_filter}
use Rattle.rdf_meaning.specs.declared.role.Role.TheVariants as role
use Rattle.rdf_meaning.proofs.AxiomLaws.{nodes_have_axioms, triples_have_axioms, triples_have_notes}
use Rattle.rdf_meaning.specs.Nodes.{is_mixed, is_same, is_structural, nodes_of, role_of}
use Rattle.rdf_meaning.proofs.NodeLaws.{nodes_are}
use Rattle.rdf_meaning.specs.Statements.{Annotates, AreAxioms, AreNodeAxioms, HasAxiom, HasNodeAxiom, IsCell, IsHeadOf, IsPartOfAxiom, IsReached, IsWhole, ReifiesSome, Says, States, header_notes, headers, is_annotation_triple, main_triples, notes_of}
use Rattle.rdf_faults.specs.Asked.{IsTyped, IsTypedAxiom, IsTypedNote}
use Rattle.rdf_faults.specs.Formed.{IsFormedAs}
use Rattle.rdf_faults.specs.Faults.{IsBadHeader, no_axiom, no_note}
use Rattle.rdf_faults.specs.Faultless.{IsFaultless}
use Rattle.rdf_faults.proofs.FaultLaws.{no_bad_cell, no_bad_header, no_bad_node, no_cyclic, no_mixed, no_note_of_nothing, no_orphan, no_untyped_part, no_untyped_statement}
use Rattle.rdf_faults.proofs.FormLaws.{formed_is_sound}
use Rattle.rdf_faults.specs.DecidedLaws.{stable}
use Rattle.rdf_faults.proofs.DecidedHeadLaws.{HasHead, decided_head}
use Rattle.rdf_faults.proofs.DecidedReachLaws.{decided_reached, decided_reifies}
use Rattle.rdf_faults.proofs.DecidedTypeLaws.{decided_axiom, decided_note}
use Rattle.rdf_faults.proofs.ReadLaws.{node_said, triple_said}
use Rattle.rdf_faults.proofs.SoundLaws.{all_cells, all_formed, all_typed, labels_formed}
use Rattle.rdf_faults.proofs.SaidNoteLaws.{annotation_says, has_variants, main_says}
use Rattle.rdf_faults.proofs.WayDownLaws.{none_below, none_under}

good_head : (g : List Triple) (x : Term) → headers g ≡ x ∷ [] → (IsBadHeader g x → ⊥) → HasHead g x
good_head g x one good =
    stable (decided_head g x) (λ n. good (record { one_header = one; no_head = λ head is. n (record { head = head; is = is }) }))

-- the one header gives a head, unless it is a bad one
pub head_of_header : (g : List Triple) (x : Term) → headers g ≡ x ∷ [] → (IsBadHeader g x → ⊥) → (head : Head) × IsHeadOf g x head
head_of_header g x one good = let h = good_head g x one good in (h.head, h.is)

-- what says an ontology has none of the faults
pub says_faultless : (g : List Triple) (k : List Entity) (o : Ontology) → Says g k o → IsFaultless g k
says_faultless g k o h =
    record {
      no_clash = h.states.no_clash;
      header = h.states.header;
      one_header = h.states.one_header;
      good_header = no_bad_header g k o h h.states.header;
      no_mixed = no_mixed g k o h;
      no_bad_cell = no_bad_cell g k o h;
      no_cyclic = no_cyclic g k o h;
      no_bad_node = no_bad_node g k o h;
      no_note_of_nothing = no_note_of_nothing g k o h;
      no_untyped_part = no_untyped_part g k o h;
      no_untyped_statement = no_untyped_statement g k o h;
      no_orphan = no_orphan g k o h;
    }

module _ (g : List Triple) (k : List Entity) (h : IsFaultless g k) where
  -- the facts that the faults deny

  label_formed : (label : List ℕ) → IsFormedAs g (role_of g (Blank label)) (Blank label)
  label_formed = labels_formed g h.no_bad_cell h.no_bad_node

  formed : (x : Term) → IsFormedAs g (role_of g x) x
  formed = all_formed g h.no_bad_cell h.no_bad_node

  cells : (x : Term) → role_of g x ≡ role.List → IsCell g x
  cells = all_cells g h.no_bad_cell h.no_bad_node

  typed : (t : Triple) → Contains g t → is_structural g t ≡ true → IsTyped g k t
  typed = all_typed g h.no_bad_cell h.no_bad_node k h.no_cyclic h.no_untyped_part

  axiom_typed : (t : Triple) → Contains (main_triples g k h.header) t → IsTypedAxiom g k t
  axiom_typed t m = stable (decided_axiom g k h.no_cyclic cells t) (λ n. h.no_untyped_statement t (no_axiom m n))

  note_typed : (t : Triple) → Contains g t → IsTrue (is_annotation_triple g k h.header t) → IsTypedNote g k t
  note_typed t m a = stable (decided_note g k t) (λ n. h.no_untyped_statement t (no_note m a n))

  its_head : HasHead g h.header
  its_head = good_head g h.header h.one_header h.good_header

  -- what is stated

  triple_has : (t : Triple) → Contains (main_triples g k h.header) t → HasAxiom g k t
  triple_has t m =
      let said = triple_said g k h.no_clash h.no_cyclic formed typed t (axiom_typed t m) in
      let variants = has_variants g k h.header h.no_cyclic note_typed t in
      record { tag = said.row.tag; kids = said.kids; said = said.said; sets = variants.0; variants = variants.1 }

  node_has : (x : Term) → Contains (nodes_of g role.Main) x → HasNodeAxiom g k x
  node_has x m =
      let e = (nodes_are g role.Main x (λ f. cc)).0 m in
      let said = node_said g k h.no_clash h.no_cyclic formed typed x e in
      let notes_in = (triples_have_notes g k (notes_of g x)).1 (main_says g k h.header h.no_cyclic note_typed x e) in
      record { tag = said.row.tag; kids = said.kids; said = said.said; annotations = notes_in.0; annotates = notes_in.1 }

  header_annotates : (us : List Tree) × Annotates g k (header_notes g k h.header) us
  unfolding header_notes
  header_annotates =
      (triples_have_notes g k (header_notes g k h.header)).1 (λ t m.
      let kept = from_filter (λ u. is_same u.subject h.header && is_annotation_triple g k h.header u) g t m in
      annotation_says g k h.header h.no_cyclic note_typed t kept.inside (and_parts (is_same t.subject h.header) _ kept.passes).1)

  by_triples : (us : List Tree) × AreAxioms g k (main_triples g k h.header) us
  by_triples = (triples_have_axioms g k (main_triples g k h.header)).1 triple_has

  by_nodes : (us : List Tree) × AreNodeAxioms g k (nodes_of g role.Main) us
  by_nodes = (nodes_have_axioms g k (nodes_of g role.Main)).1 node_has

  said : Ontology
  said = record { head = its_head.head; annotations = header_annotates.0; axioms = by_triples.0 ++ by_nodes.0 }

  states : States g k said
  unfolding said
  states =
      record {
        no_clash = h.no_clash;
        header = h.header;
        one_header = h.one_header;
        said = its_head.head;
        is_head = its_head.is;
        notes_in = header_annotates.0;
        are_notes = header_annotates.1;
        by_triples = by_triples.0;
        are_axioms = by_triples.1;
        by_nodes = by_nodes.0;
        are_node_axioms = by_nodes.1;
        head = record { name = refl; imports = hold_same its_head.head.imports };
        annotations = (equivalent_lists header_annotates.0 header_annotates.0).1 refl;
        axioms = (equivalent_lists (by_triples.0 ++ by_nodes.0) (by_triples.0 ++ by_nodes.0)).1 refl;
      }

  -- nothing is passed over

  reifies : (s : Term) → role_of g s ≡ role.Note → ReifiesSome g k h.header s
  reifies (Iri iri) e = cc
  reifies (Blank label) e =
      stable (decided_reifies g k h.header (Blank label)) (λ n. h.no_note_of_nothing label (record { note = e; nothing = n }))
  reifies (Literal literal) e = cc

  reached : (label : List ℕ) → IsPartOfAxiom (role_of g (Blank label)) → IsReached g k h.header (Blank label)
  reached label p =
      stable (decided_reached g h.no_cyclic k h.header (Blank label)) (λ n. h.no_orphan label (record { part = p; unreached = n }))

  whole : IsWhole g k h.header
  whole =
      record {
        one_role = λ label. false_from_ne_true (is_mixed g (Blank label)) (h.no_mixed label);
        sound = λ label. formed_is_sound g (role_of g (Blank label)) (Blank label) (label_formed label);
        no_cycle = none_below g h.no_cyclic;
        no_cycle_of_notes = none_under g h.no_cyclic;
        reifications = λ s m. reifies s ((nodes_are g role.Note s (λ f. cc)).0 m);
        reached = reached;
      }

  pub faultless_says : (o : Ontology) × Says g k o
  unfolding said states
  faultless_says = (said, record { states = states; whole = whole })
