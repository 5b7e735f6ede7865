-- The labels of an ontology are those of individuals in its graph.
use Rattle.std.proofs.Common.{◌≡◌, ◌≤◌, ◌+◌, ◌⊎◌, ℕ, true, false, List, inl, inr, refl, sym, ap, ◌∙◌, subst, arith}
use Rattle.std.specs.Prelude.{Contains, map, Option, None, Some}
use Rattle.std.proofs.lemmas.Bool.{both_ways}
use Rattle.owl_kind.specs.Kinds.{Entity}
use Rattle.owl_list.proofs.AscendingLaws.{all_in, ascending_holds, from_map}
use Rattle.owl_tree.specs.Ontologies.{Ontology, OntologyName}
use Rattle.owl_tree.specs.Order.{tree_cmp}
use Rattle.owl_tree.specs.OrderLaws.{only_equal_trees_tie, trees_total}
use Rattle.owl_tree.specs.Trees.{Tree, kids_of}
use Rattle.rdf_graph.specs.declared.term.Term.{Term}
use Rattle.rdf_graph.specs.declared.term.Term.TheVariants.{Blank}
use Rattle.rdf_graph.specs.declared.triple.Triple.{Triple}
use Rattle.rdf_meaning.specs.Nodes.{is_iri}
use Rattle.rdf_mapping.proofs.BesideLaws.{all_declarable_beside}
use Rattle.rdf_mapping.specs.Drawing.{Statement, statement_of}
use Rattle.rdf_mapping.specs.Entries.{AreAllBeside}
use Rattle.rdf_mapping.specs.EntryLaws.{entry_subjects, link_subjects}
use Rattle.rdf_mapping.specs.Forms.{made, blank, nodes}
use Rattle.rdf_mapping.specs.FormLaws.{lie, subjects}
use Rattle.rdf_mapping.specs.Frames.{IsOfNode, Lies}
use Rattle.rdf_mapping.specs.GraphEntries.{made_nodes}
use Rattle.rdf_mapping.proofs.GraphEntryLaws.{made_drawn}
use Rattle.rdf_mapping.specs.Graphs.{bare, bare_axioms, header_nodes, header_term, labels_of, notes_from, sets_of}
use Rattle.rdf_mapping.proofs.GroupLaws.{set_of_axiom}
use Rattle.rdf_mapping.proofs.MainLaws.{node_iri}
use Rattle.rdf_mapping.specs.Notes.{Notes, notes_in}
use Rattle.rdf_mapping.proofs.RoleLaws.{individual_role}
use Rattle.rdf_mapping.specs.Sorts.{SaysAxiom}
use Rattle.rdf_mapping.proofs.WholeFrameLaws.{head_subject}
use Rattle.rdf_axioms.specs.AxiomReading.{IsWellDrawn, main_of}
use Rattle.rdf_states.proofs.AnnotationLaws.{declarable}
use Rattle.rdf_states.proofs.GraphOf.{AreWellDrawn, IsGraphOf, LabelsAreSingle}
use Rattle.rdf_states.specs.Places.{IsMade, of_head, of_header_note, of_axiom, at_end, is_main, at_node, at_note, StandsAt, first_number}
use Rattle.rdf_states.specs.PlaceLaws.{end_bounds, made_cases, placed_in, stand_bounds, stands_bounds}
use Rattle.rdf_states.specs.Stated.{CanBeDrawn}
use Rattle.rdf_states.proofs.StatedLaws.{annotations_are, annotations_said, bare_statement, notes_beside, notes_from_kids, stated_axiom}

-- the header is an IRI, or the first node
pub header_place : (name : ℕ → List ℕ) (n : Option OntologyName) → (is_iri (header_term name n) ≡ true) ⊎ Lies name 0 (header_nodes n) (header_term name n)
header_place name None = inr (lie name 0 0 1 (blank name 0) (omega arith) (omega arith) refl)
header_place name (Some n) = inl refl

pub iri_no_blank : (x : Term) (label : List ℕ) → is_iri x ≡ true → x ≡ Blank label → ⊥
iri_no_blank x label h e = both_ways false refl (sym (ap is_iri e) ∙ h)

-- an axiom at each place
pub place_axiom : (o : Ontology) (b : Tree) (m : ℕ) → StandsAt o b m → (a : Tree) × Contains o.axioms a × (bare a ≡ b)
place_axiom o b m p =
    let among = (ascending_holds tree_cmp trees_total only_equal_trees_tie (map bare o.axioms) b).0 (placed_in o.axioms b m (bare_axioms o.axioms) (first_number o) p) in
    let v = from_map bare o.axioms b among in
    (v.element, v.inside, v.value)

pub place_drawn : (name : ℕ → List ℕ) (o : Ontology) → AreWellDrawn name o → (b : Tree) (m : ℕ) → StandsAt o b m → IsWellDrawn name (made_nodes o) (statement_of b)
place_drawn name o drawn b m p =
    let a = place_axiom o b m p in
    subst (λ (s : Statement). IsWellDrawn name (made_nodes o) s) (sym (bare_statement a.0) ∙ ap statement_of a.2) (drawn a.0 a.1)

pub place_says : (name : ℕ → List ℕ) (o : Ontology) → AreWellDrawn name o → (b : Tree) (m : ℕ) → StandsAt o b m → (t : Triple) → Contains (main_of name (statement_of b) m) t → SaysAxiom t
place_says name o drawn b m p t i = all_in SaysAxiom (main_of name (statement_of b) m) t ((place_drawn name o drawn b m p).says m) i

module _ (k : List Entity) (o : Ontology) (c : CanBeDrawn k o) where
  -- no annotation makes its subject what it is
  pub set_beside : (b : Tree) (ns : Notes) → Contains (sets_of b o.axioms) ns → AreAllBeside ns
  set_beside b ns m =
      let a = set_of_axiom o.axioms b ns m in
      subst AreAllBeside a.3 (notes_beside k o a.0 (stated_axiom k o c a.0 a.1))

  pub header_beside : AreAllBeside (notes_from o.annotations)
  header_beside =
      subst AreAllBeside (sym (notes_from_kids o.annotations))
      (all_declarable_beside (notes_in (kids_of o.annotations)) (declarable (kids_of o.annotations) (annotations_are k o c) (annotations_said k o c)))

module _ (name : ℕ → List ℕ) (g : List Triple) (o : Ontology) (d : IsGraphOf name g o) (drawn : AreWellDrawn name o) where
  no_label : (label : List ℕ) → Contains (labels_of o) label → (x : Term) (low high : ℕ) → high ≤ made_nodes o → Lies name low high x → x ≡ Blank label → ⊥
  no_label label m x low high h l e = d.fresh label m l.number (let up = l.below in omega (arith, up, h)) (sym e ∙ l.is)

  header_nodes_few : header_nodes o.head.name ≤ made_nodes o
  header_nodes_few = omega arith

  no_header_label : (label : List ℕ) → Contains (labels_of o) label → header_term name o.head.name ≡ Blank label → ⊥
  no_header_label label m e =
      elim (header_place name o.head.name) [
        | inl i ↦ iri_no_blank (header_term name o.head.name) label i e
        | inr l ↦ no_label label m (header_term name o.head.name) 0 (header_nodes o.head.name) header_nodes_few l e
      ]

  no_node : (label : List ℕ) → Contains (labels_of o) label → (t : Triple) → IsMade name o t → t.subject ≡ Blank label → IsOfNode t → ⊥
  no_node label m t (of_head i) e n = no_header_label label m (sym (head_subject (header_term name o.head.name) o.head t i) ∙ e)
  no_node label m t (of_header_note i) e n = no_header_label label m (sym (link_subjects (header_term name o.head.name) (notes_from o.annotations) t i) ∙ e)
  no_node label m t (of_axiom b l p (at_end f i j)) e n =
      let bounds = stands_bounds o b l p in
      let own = end_bounds (statement_of b) (sets_of b o.axioms) l f i in
      no_label label m t.subject f.number (f.number + nodes f.form) (let h = own.1 in let w = bounds.1 in omega (arith, h, w)) (subjects name f.form f.number t j) e
  no_node label m t (of_axiom b l p (is_main i)) e n = iri_no_blank t.subject label (node_iri t (place_says name o drawn b l p t i) n) e
  no_node label m t (of_axiom b l p (at_node f i j)) e n =
      let bounds = stands_bounds o b l p in
      let own = stand_bounds (statement_of b) (sets_of b o.axioms) l f i in
      no_label label m t.subject f.number (f.number + nodes (made f.arcs)) (let h = own.below in let w = bounds.1 in omega (arith, h, w)) (subjects name (made f.arcs) f.number t j) e
  no_node label m t (of_axiom b l p (at_note f i j)) e n =
      let bounds = stands_bounds o b l p in
      let own = stand_bounds (statement_of b) (sets_of b o.axioms) l f i in
      d.fresh label m f.number (let h = own.below in let w = bounds.1 in omega (arith, h, w)) (sym e ∙ link_subjects (blank name f.number) f.notes t j)

  pub labels_single : LabelsAreSingle g o
  labels_single label m =
      individual_role g label (λ t i e n. elim (made_cases name o t ((d.holds t).0 i)) [
        | inl own ↦ no_node label m t own e n
        | inr f ↦ d.fresh label m f.entry.number ((made_drawn name o).below f.entry f.among) (sym e ∙ entry_subjects name f.entry t f.inside)
      ])
