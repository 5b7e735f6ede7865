-- The roles of the nodes of a graph of the ontology, by what their triples are made as.
use Rattle.std.proofs.Common.{◌≡◌, ℕ, true, List, inl, inr, sym, ap, ◌∙◌}
use Rattle.std.specs.Prelude.{Contains}
use Rattle.owl_kind.specs.Kinds.{Entity}
use Rattle.owl_tree.specs.Ontologies.{Ontology}
use Rattle.rdf_graph.specs.declared.term.Term.{Term}
use Rattle.rdf_graph.specs.declared.triple.Triple.{Triple}
use Rattle.rdf_meaning.specs.declared.role.Role.TheVariants as role
use Rattle.rdf_meaning.specs.Nodes.{marks_role, role_of}
use Rattle.rdf_meaning.specs.Sound.{IsSoundBelow}
use Rattle.rdf_meaning.specs.Statements.{IsPartOfAxiom}
use Rattle.rdf_mapping.specs.Drawing.{statement_of}
use Rattle.rdf_mapping.specs.GraphEntries.{made_others}
use Rattle.rdf_mapping.specs.Graphs.{header_term, notes_from, sets_of}
use Rattle.rdf_mapping.specs.NoteLaws.{beside_links}
use Rattle.rdf_mapping.specs.OwnLaws.{marks_of_node}
use Rattle.rdf_mapping.proofs.SetLaws.{all_beside}
use Rattle.rdf_states.proofs.GraphOf.{AreReadBack, AreWellDrawn, IsGraphOf, LabelsAreSingle}
use Rattle.rdf_states.proofs.MarkLaws.{head_mark, says_no_note, structural_mark}
use Rattle.rdf_states.specs.Places.{IsMade, of_head, of_header_note, of_axiom, at_end, is_main, at_node, at_note, stand_node}
use Rattle.rdf_states.specs.PlaceLaws.{made_other, stand_notes}
use Rattle.rdf_states.proofs.ReadLaws.{end_sound, end_structural, stand_main, stand_sound, stand_structural}
use Rattle.rdf_states.proofs.SideLaws.{header_beside, place_says, set_beside}
use Rattle.rdf_states.specs.Stated.{CanBeDrawn}
use Rattle.rdf_states.specs.UnderLaws.{sound_role}

no_main_part : IsPartOfAxiom role.Main → ⊥
no_main_part h = h

no_note_part : IsPartOfAxiom role.Note → ⊥
no_note_part h = h

main_is_no_individual : role.Individual ≡ role.Main → ⊥
main_is_no_individual e = cc

note_is_no_individual : role.Individual ≡ role.Note → ⊥
note_is_no_individual e = cc

pub note_is_no_main : role.Main ≡ role.Note → ⊥
note_is_no_main e = cc

-- what is sound stands for no axiom, and reifies nothing
pub sound_no_main : (g : List Triple) (x : Term) → IsSoundBelow g x → role_of g x ≡ role.Main → ⊥
sound_no_main g x s e = sound_role g x role.Main no_main_part main_is_no_individual s e

pub sound_no_note : (g : List Triple) (x : Term) → IsSoundBelow g x → role_of g x ≡ role.Note → ⊥
sound_no_note g x s e = sound_role g x role.Note no_note_part note_is_no_individual s e

note_no_header : role.Note ≡ role.Header → ⊥
note_no_header e = cc

module _ (k : List Entity) (o : Ontology) (c : CanBeDrawn k o) (name : ℕ → List ℕ) (g : List Triple) (d : IsGraphOf name g o) (drawn : AreWellDrawn name o) (single : LabelsAreSingle g o) (read : AreReadBack name g k o) where
  -- no triple that is of no node that reifies is a mark of one
  no_note_at : (t : Triple) → IsMade name o t → marks_role role.Note t ≡ true → ⊥
  no_note_at t (of_head i) h = note_no_header (head_mark role.Note (header_term name o.head.name) o.head t i h)
  no_note_at t (of_header_note i) h =
      beside_links (header_term name o.head.name) (notes_from o.annotations) t (all_beside (notes_from o.annotations) (header_beside k o c)) i (marks_of_node role.Note t h)
  no_note_at t (of_axiom b m p (at_end e i j)) h =
      sound_no_note g t.subject (end_sound k o c name g d drawn single read b m p e i t j)
      (sym (structural_mark g t role.Note (end_structural k o c name g d drawn single read b m p e i t j).1 h))
  no_note_at t (of_axiom b m p (is_main i)) h = says_no_note t (place_says name o drawn b m p t i) h
  no_note_at t (of_axiom b m p (at_node e i j)) h =
      let is_note = sym (structural_mark g t role.Note (stand_structural k o c name g d drawn single read b m p e i t j).1 h) in
      elim (stand_sound k o c name g d drawn single read b m p e i t j) [
        | inl s ↦ note_is_no_main (sym (ap (role_of g) s ∙ stand_main k o c name g d drawn single read b m p e i) ∙ is_note)
        | inr s ↦ sound_no_note g t.subject s is_note
      ]
  no_note_at t (of_axiom b m p (at_note e i j)) h =
      beside_links (stand_node name e) e.notes t (all_beside e.notes (set_beside k o c b e.notes (stand_notes (statement_of b) (sets_of b o.axioms) m e i))) j (marks_of_node role.Note t h)

  pub no_note_marks : (t : Triple) → Contains (made_others name o) t → marks_role role.Note t ≡ true → ⊥
  no_note_marks t m h = no_note_at t (made_other name o t m) h
