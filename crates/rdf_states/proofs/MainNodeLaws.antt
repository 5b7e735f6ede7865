-- The nodes that stand for axioms are those that are drawn so, and the header is none of them.
use Rattle.std.proofs.Common.{◌≡◌, ◌≤◌, ◌+◌, ℕ, true, List, inl, inr, refl, sym, ap, ◌∙◌, subst, arith}
use Rattle.std.specs.Prelude.{Contains}
use Rattle.owl_kind.specs.Kinds.{Entity}
use Rattle.owl_tree.specs.Ontologies.{Ontology}
use Rattle.owl_tree.specs.Trees.{Tree}
use Rattle.rdf_graph.specs.declared.term.Term.{Term}
use Rattle.rdf_graph.specs.declared.triple.Triple.{Triple}
use Rattle.rdf_meaning.specs.declared.role.Role.TheVariants as role
use Rattle.rdf_meaning.specs.Nodes.{marks_role, role_of}
use Rattle.rdf_mapping.specs.Drawing.{statement_of}
use Rattle.rdf_mapping.specs.Entries.{AreEntries, Entry, entry_node, note_links}
use Rattle.rdf_mapping.specs.EntryLaws.{entry_subjects, link_subjects}
use Rattle.rdf_mapping.specs.Forms.{made, nodes}
use Rattle.rdf_mapping.specs.FormLaws.{apart, lie, subjects}
use Rattle.rdf_mapping.specs.Frames.{Lies}
use Rattle.rdf_mapping.specs.GraphEntries.{made_entries, made_nodes}
use Rattle.rdf_mapping.proofs.GraphEntryLaws.{made_drawn}
use Rattle.rdf_mapping.specs.Graphs.{head_triples, header_nodes, header_term, notes_from, sets_of}
use Rattle.rdf_mapping.specs.NoteLaws.{beside_links, note_role}
use Rattle.rdf_mapping.specs.OwnLaws.{marks_of_node}
use Rattle.rdf_mapping.proofs.SetLaws.{all_beside}
use Rattle.rdf_mapping.proofs.WholeLaws.{marked}
use Rattle.rdf_axioms.specs.AxiomReading.{main_of}
use Rattle.rdf_states.proofs.GraphOf.{AreReadBack, AreWellDrawn, IsGraphOf, LabelsAreSingle}
use Rattle.rdf_states.proofs.MarkLaws.{head_mark}
use Rattle.rdf_states.specs.Places.{IsMade, of_head, of_header_note, of_axiom, at_end, is_main, at_node, at_note, Stand, StandsAt, stand_node, stands_of}
use Rattle.rdf_states.specs.PlaceLaws.{end_bounds, made_cases, stand_bounds, stands_bounds}
use Rattle.rdf_states.proofs.ReadLaws.{end_sound, main_sound, stand_main, stand_sound}
use Rattle.rdf_states.proofs.RoleLaws.{note_is_no_main, sound_no_main}
use Rattle.rdf_states.proofs.SideLaws.{header_beside, header_place, iri_no_blank}
use Rattle.rdf_states.specs.Stated.{CanBeDrawn}

-- the node is one that stands for an axiom at its place
pub record IsStandNode (name : ℕ → List ℕ) (o : Ontology) (x : Term) : Type 0 where
  pub bare : Tree
  pub number : ℕ
  pub place : StandsAt o bare number
  pub stand : Stand
  pub among : Contains (stands_of (statement_of bare) (sets_of bare o.axioms) number) stand
  pub is : x ≡ stand_node name stand

main_no_header : role.Main ≡ role.Header → ⊥
main_no_header e = cc

main_no_individual : role.Main ≡ role.Individual → ⊥
main_no_individual e = cc

-- what has a number behind the header's is not the header
pub header_apart : (name : ℕ → List ℕ) (g : List Triple) (o : Ontology) → IsGraphOf name g o → (x : Term) (low high : ℕ) → header_nodes o.head.name ≤ low → high ≤ made_nodes o → Lies name low high x → x ≡ header_term name o.head.name → ⊥
header_apart name g o d x low high h few l e =
    elim (header_place name o.head.name) [
      | inl i ↦ iri_no_blank (header_term name o.head.name) (name l.number) i (sym e ∙ l.is)
      | inr f ↦
          let first : Lies name 0 (header_nodes o.head.name) x = subst (λ (y : Term). Lies name 0 (header_nodes o.head.name) y) (sym e) f in
          apart name (made_nodes o) d.differ 0 (header_nodes o.head.name) low high x first l h few
    ]

-- What a triple of the header is made as.
pub data IsAtHeader (name : ℕ → List ℕ) (o : Ontology) (t : Triple) : Type 0 where
  names : Contains (head_triples (header_term name o.head.name) o.head) t → IsAtHeader name o t
  annotates : Contains (note_links (header_term name o.head.name) (notes_from o.annotations)) t → IsAtHeader name o t
  says : (b : Tree) (m : ℕ) → StandsAt o b m → Contains (main_of name (statement_of b) m) t → IsAtHeader name o t

module _ (name : ℕ → List ℕ) (g : List Triple) (o : Ontology) (d : IsGraphOf name g o) where
  pub entry_apart : (e : Entry) → Contains (made_entries name o) e → entry_node name e ≡ header_term name o.head.name → ⊥
  entry_apart e m h =
      let from = (made_drawn name o).from e m in
      let below = (made_drawn name o).below e m in
      header_apart name g o d (entry_node name e) (header_nodes o.head.name) (made_nodes o) (omega arith) (omega arith) (lie name e.number (header_nodes o.head.name) (made_nodes o) (entry_node name e) from below refl) h

  pub stand_apart : (b : Tree) (m : ℕ) → StandsAt o b m → (e : Stand) → Contains (stands_of (statement_of b) (sets_of b o.axioms) m) e → stand_node name e ≡ header_term name o.head.name → ⊥
  stand_apart b m p e i h =
      let bounds = stands_bounds o b m p in
      let own = stand_bounds (statement_of b) (sets_of b o.axioms) m e i in
      header_apart name g o d (stand_node name e) (header_nodes o.head.name) (made_nodes o) (omega arith) (omega arith)
      (lie name e.number (header_nodes o.head.name) (made_nodes o) (stand_node name e) (let a = own.from in let w = bounds.0 in omega (arith, a, w)) (let a = own.below in let w = bounds.1 in omega (arith, a, w)) refl) h

  made_at_header : (t : Triple) → IsMade name o t → t.subject ≡ header_term name o.head.name → IsAtHeader name o t
  made_at_header t (of_head i) h = names i
  made_at_header t (of_header_note i) h = annotates i
  made_at_header t (of_axiom b m p (is_main i)) h = says b m p i
  made_at_header t (of_axiom b m p (at_end e i j)) h =
      let bounds = stands_bounds o b m p in
      let own = end_bounds (statement_of b) (sets_of b o.axioms) m e i in
      absurd (header_apart name g o d t.subject e.number (e.number + nodes e.form)
      (let a = own.0 in let w = bounds.0 in omega (arith, a, w)) (let a = own.1 in let w = bounds.1 in omega (arith, a, w)) (subjects name e.form e.number t j) h)
  made_at_header t (of_axiom b m p (at_node e i j)) h =
      let bounds = stands_bounds o b m p in
      let own = stand_bounds (statement_of b) (sets_of b o.axioms) m e i in
      absurd (header_apart name g o d t.subject e.number (e.number + nodes (made e.arcs))
      (let a = own.from in let w = bounds.0 in omega (arith, a, w)) (let a = own.below in let w = bounds.1 in omega (arith, a, w)) (subjects name (made e.arcs) e.number t j) h)
  made_at_header t (of_axiom b m p (at_note e i j)) h = absurd (stand_apart b m p e i (sym (link_subjects (stand_node name e) e.notes t j) ∙ h))

  -- each triple of the header is one of these
  pub at_header : (t : Triple) → Contains g t → t.subject ≡ header_term name o.head.name → IsAtHeader name o t
  at_header t m h =
      elim (made_cases name o t ((d.holds t).0 m)) [
        | inl own ↦ made_at_header t own h
        | inr f ↦ absurd (entry_apart f.entry f.among (sym (entry_subjects name f.entry t f.inside) ∙ h))
      ]

module _ (k : List Entity) (o : Ontology) (c : CanBeDrawn k o) (name : ℕ → List ℕ) (g : List Triple) (d : IsGraphOf name g o) (drawn : AreWellDrawn name o) (single : LabelsAreSingle g o) (read : AreReadBack name g k o) (are : AreEntries name g (made_entries name o)) where
  pub entry_role : (e : Entry) → Contains (made_entries name o) e → role_of g (entry_node name e) ≡ role.Note
  entry_role e m = note_role name g d.apart e (are.said e m) (are.own e m)

  main_made : (t : Triple) → IsMade name o t → role_of g t.subject ≡ role.Main → marks_role role.Main t ≡ true → IsStandNode name o t.subject
  main_made t (of_head i) r h = absurd (main_no_header (head_mark role.Main (header_term name o.head.name) o.head t i h))
  main_made t (of_header_note i) r h =
      absurd (beside_links (header_term name o.head.name) (notes_from o.annotations) t (all_beside (notes_from o.annotations) (header_beside k o c)) i (marks_of_node role.Main t h))
  main_made t (of_axiom b m p (at_end e i j)) r h = absurd (sound_no_main g t.subject (end_sound k o c name g d drawn single read b m p e i t j) r)
  main_made t (of_axiom b m p (is_main i)) r h = absurd (sound_no_main g t.subject (main_sound k o c name g d drawn single read b m p t i).0 r)
  main_made t (of_axiom b m p (at_node e i j)) r h =
      elim (stand_sound k o c name g d drawn single read b m p e i t j) [
        | inl s ↦ record { bare = b; number = m; place = p; stand = e; among = i; is = s }
        | inr s ↦ absurd (sound_no_main g t.subject s r)
      ]
  main_made t (of_axiom b m p (at_note e i j)) r h =
      record { bare = b; number = m; place = p; stand = e; among = i; is = link_subjects (stand_node name e) e.notes t j }

  -- a node that stands for an axiom is one that is drawn so
  pub main_is_stand : (x : Term) → role_of g x ≡ role.Main → IsStandNode name o x
  main_is_stand x r =
      let k = marked g x role.Main main_no_individual r in
      let at : role_of g k.triple.subject ≡ role.Main = ap (role_of g) k.subject ∙ r in
      subst (IsStandNode name o) k.subject
      (elim (made_cases name o k.triple ((d.holds k.triple).0 k.inside)) [
        | inl own ↦ main_made k.triple own at k.marks
        | inr f ↦ absurd (note_is_no_main (sym at ∙ ap (role_of g) (entry_subjects name f.entry k.triple f.inside) ∙ entry_role f.entry f.among))
      ])

  -- and has the role
  pub stand_is_main : (x : Term) → IsStandNode name o x → role_of g x ≡ role.Main
  stand_is_main x s = ap (role_of g) s.is ∙ stand_main k o c name g d drawn single read s.bare s.number s.place s.stand s.among

  pub header_no_main : role_of g (header_term name o.head.name) ≡ role.Main → ⊥
  header_no_main r = let s = main_is_stand (header_term name o.head.name) r in stand_apart name g o d s.bare s.number s.place s.stand s.among (sym s.is)

  pub header_no_note : role_of g (header_term name o.head.name) ≡ role.Note → ⊥
  header_no_note r = let n = are.all (header_term name o.head.name) r in entry_apart name g o d n.entry n.among (sym n.is)
