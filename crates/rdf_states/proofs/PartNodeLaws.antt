-- The nodes of a graph of the ontology that are parts of axioms, and what marks each node has.
use Rattle.std.proofs.Common.{◌≡◌, ◌≤◌, ◌⊎◌, ℕ, Bool, true, false, List, [], ◌∷◌, length, inl, inr, refl, sym, ap, ◌∙◌, subst, arith}
use Rattle.std.specs.Prelude.{Contains, nat_le, not, ◌&&◌}
use Rattle.std.specs.List.{list_any}
use Rattle.std.proofs.lemmas.Bool.{and_parts, both_ways, lt-leb, not-true}
use Rattle.std.proofs.lemmas.List.Elements.{Contains-append_cases}
use Rattle.owl_kind.specs.Kinds.{Entity}
use Rattle.owl_list.specs.Ascending.{AreApart}
use Rattle.owl_list.proofs.AscendingLaws.{in_head, in_tail}
use Rattle.owl_tree.specs.Ontologies.{Ontology}
use Rattle.owl_tree.specs.Trees.{Tree}
use Rattle.rdf_graph.specs.declared.term.Term.{Term}
use Rattle.rdf_graph.specs.declared.term.Term.TheVariants.{Blank}
use Rattle.rdf_graph.specs.declared.triple.Triple.{Triple}
use Rattle.rdf_meaning.specs.declared.role.Role.{Role}
use Rattle.rdf_meaning.specs.declared.role.Role.TheVariants as role
use Rattle.rdf_meaning.specs.Nodes.{is_mixed, is_role, is_structural, of_subject, marked_roles, marks_role, role_of, roles_of}
use Rattle.rdf_meaning.proofs.RowLaws.{own_role}
use Rattle.rdf_meaning.specs.Sound.{IsSoundBelow}
use Rattle.rdf_meaning.specs.Statements.{IsPartOfAxiom}
use Rattle.rdf_mapping.specs.Drawing.{statement_of}
use Rattle.rdf_mapping.specs.Entries.{AreEntries, Entry, entry_node, entry_triples, note_links}
use Rattle.rdf_mapping.specs.EntryLaws.{entry_subjects}
use Rattle.rdf_mapping.specs.Forms.{made, triples}
use Rattle.rdf_mapping.specs.GraphEntries.{made_entries}
use Rattle.rdf_mapping.specs.Graphs.{header_term, notes_from, sets_of}
use Rattle.rdf_mapping.proofs.MainLaws.{node_iri}
use Rattle.rdf_mapping.specs.NoteLaws.{beside_links, reifying_structural}
use Rattle.rdf_mapping.specs.Notes.{reifying}
use Rattle.rdf_mapping.specs.OwnLaws.{any_from, apart_filter, marks_of_node}
use Rattle.rdf_mapping.proofs.SetLaws.{all_beside}
use Rattle.rdf_mapping.proofs.WholeFrameLaws.{head_subject}
use Rattle.rdf_mapping.proofs.WholeLaws.{HasMark, has_role, marked}
use Rattle.rdf_axioms.specs.AxiomReading.{main_of}
use Rattle.rdf_states.proofs.GraphOf.{AreReadBack, AreWellDrawn, IsGraphOf, LabelsAreSingle}
use Rattle.rdf_states.proofs.MainNodeLaws.{IsAtHeader, names, annotates, says, at_header, entry_role}
use Rattle.rdf_states.proofs.MarkLaws.{head_mark, structural_mark}
use Rattle.rdf_states.specs.Places.{End, IsMade, of_head, of_header_note, of_axiom, at_end, is_main, at_node, at_note, Stand, StandsAt, ends_of, stand_node, stands_of}
use Rattle.rdf_states.specs.PlaceLaws.{made_cases, stand_notes}
use Rattle.rdf_states.proofs.ReadLaws.{end_sound, end_structural, stand_main, stand_sound, stand_structural}
use Rattle.rdf_states.proofs.SideLaws.{header_beside, iri_no_blank, place_says, set_beside}
use Rattle.rdf_states.specs.Stated.{CanBeDrawn}

-- Lists of one element.

one_at_most : {X : Type 0} (xs : List X) → AreApart xs → ((x y : X) → Contains xs x → Contains xs y → x ≡ y) → length xs ≤ 1
one_at_most [] a h = omega arith
one_at_most (x ∷ []) a h = omega arith
one_at_most (x ∷ y ∷ xs) a h =
    let same = h x y (in_head x (y ∷ xs)) (in_tail x (y ∷ xs) y (in_head y xs)) in
    absurd (a.0 (subst (λ z. Contains (y ∷ xs) z) (sym same) (in_head y xs)))

few_no_two : (n : ℕ) → n ≤ 1 → nat_le 2 n ≡ false
few_no_two n h = lt-leb 2 n (omega (arith, h))

abbrev are_apart : List Role → Bool
are_apart [] = true
are_apart (r ∷ rs) = not (list_any (is_role r) rs) && are_apart rs

apart_by : (rs : List Role) → are_apart rs ≡ true → AreApart rs
apart_by [] h = tt
apart_by (r ∷ rs) h =
    let both = and_parts (not (list_any (is_role r) rs)) (are_apart rs) h in
    (λ m. both_ways (list_any (is_role r) rs) (not-true (list_any (is_role r) rs) both.0) (any_from (is_role r) rs r m (own_role r)), apart_by rs both.1)

-- A part of an axiom is a node of an end of a triple, or below a node that stands for an axiom.
pub data IsPartNode (name : ℕ → List ℕ) (o : Ontology) (x : Term) : Type 0 where
  below_end : (b : Tree) (m : ℕ) → StandsAt o b m → (e : End) → Contains (ends_of (statement_of b) m) e → (t : Triple) →
      Contains (triples name e.form e.number) t → t.subject ≡ x → IsPartNode name o x
  below_stand : (b : Tree) (m : ℕ) → StandsAt o b m → (e : Stand) → Contains (stands_of (statement_of b) (sets_of b o.axioms) m) e →
      (t : Triple) → Contains (triples name (made e.arcs) e.number) t → t.subject ≡ x → IsPartNode name o x

part_no_header : (r : Role) → IsPartOfAxiom r → r ≡ role.Header → ⊥
part_no_header r p e = subst IsPartOfAxiom e p

part_no_note : (r : Role) → IsPartOfAxiom r → r ≡ role.Note → ⊥
part_no_note r p e = subst IsPartOfAxiom e p

pub part_no_main : (r : Role) → IsPartOfAxiom r → r ≡ role.Main → ⊥
part_no_main r p e = subst IsPartOfAxiom e p

part_no_individual : (r : Role) → IsPartOfAxiom r → r ≡ role.Individual → ⊥
part_no_individual r p e = subst IsPartOfAxiom e p

module _ (k : List Entity) (o : Ontology) (c : CanBeDrawn k o) (name : ℕ → List ℕ) (g : List Triple) (d : IsGraphOf name g o) (drawn : AreWellDrawn name o) (single : LabelsAreSingle g o) (read : AreReadBack name g k o) (are : AreEntries name g (made_entries name o)) where
  abbrev header : Term
  header = header_term name o.head.name

  no_header_note : (t : Triple) (q : Role) → Contains (note_links header (notes_from o.annotations)) t → marks_role q t ≡ true → ⊥
  no_header_note t q i h = beside_links header (notes_from o.annotations) t (all_beside (notes_from o.annotations) (header_beside k o c)) i (marks_of_node q t h)

  no_stand_note : (b : Tree) (m : ℕ) (e : Stand) → Contains (stands_of (statement_of b) (sets_of b o.axioms) m) e → (t : Triple) (q : Role) → Contains (note_links (stand_node name e) e.notes) t → marks_role q t ≡ true → ⊥
  no_stand_note b m e i t q j h =
      beside_links (stand_node name e) e.notes t (all_beside e.notes (set_beside k o c b e.notes (stand_notes (statement_of b) (sets_of b o.axioms) m e i))) j (marks_of_node q t h)

  no_main_mark : (b : Tree) (m : ℕ) (p : StandsAt o b m) (t : Triple) (q : Role) (label : List ℕ) → Contains (main_of name (statement_of b) m) t → t.subject ≡ Blank label → marks_role q t ≡ true → ⊥
  no_main_mark b m p t q label i at h = iri_no_blank t.subject label (node_iri t (place_says name o drawn b m p t i) (marks_of_node q t h)) at

  -- The marks of a blank node are of its role, or it is the header, and they are of that.
  abbrev IsMarkOf : Term → Role → Type 0
  IsMarkOf x q = (q ≡ role_of g x) ⊎ ((q ≡ role.Header) × (x ≡ header))

  structural_at : (t : Triple) (q : Role) (x : Term) → t.subject ≡ x → is_structural g t ≡ true → marks_role q t ≡ true → IsMarkOf x q
  structural_at t q x at s h = inl (structural_mark g t q s h ∙ ap (role_of g) at)

  made_mark : (t : Triple) (q : Role) (label : List ℕ) → t.subject ≡ Blank label → IsMade name o t → marks_role q t ≡ true → IsMarkOf (Blank label) q
  made_mark t q label at (of_head i) h = inr (head_mark q header o.head t i h, sym at ∙ head_subject header o.head t i)
  made_mark t q label at (of_header_note i) h = absurd (no_header_note t q i h)
  made_mark t q label at (of_axiom b m p (at_end e i j)) h =
      structural_at t q (Blank label) at (end_structural k o c name g d drawn single read b m p e i t j).1 h
  made_mark t q label at (of_axiom b m p (is_main i)) h = absurd (no_main_mark b m p t q label i at h)
  made_mark t q label at (of_axiom b m p (at_node e i j)) h =
      structural_at t q (Blank label) at (stand_structural k o c name g d drawn single read b m p e i t j).1 h
  made_mark t q label at (of_axiom b m p (at_note e i j)) h = absurd (no_stand_note b m e i t q j h)

  entry_mark : (e : Entry) → Contains (made_entries name o) e → (t : Triple) (q : Role) (x : Term) → t.subject ≡ x → Contains (entry_triples name e) t → marks_role q t ≡ true → IsMarkOf x q
  entry_mark e m t q x at i h =
      elim (Contains-append_cases (reifying e.word (entry_node name e) e.triple) (note_links (entry_node name e) e.notes) t i) [
        | inl j ↦ structural_at t q x at (reifying_structural name g d.apart e (are.said e m) (are.own e m) t j) h
        | inr j ↦ absurd (beside_links (entry_node name e) e.notes t (are.said e m).beside j (marks_of_node q t h))
      ]

  mark_of : (label : List ℕ) (q : Role) → HasMark g (Blank label) q → IsMarkOf (Blank label) q
  mark_of label q h =
      elim (made_cases name o h.triple ((d.holds h.triple).0 h.inside)) [
        | inl own ↦ made_mark h.triple q label h.subject own h.marks
        | inr f ↦ entry_mark f.entry f.among h.triple q (Blank label) h.subject f.inside h.marks
      ]

  header_mark : (label : List ℕ) (q : Role) → HasMark g (Blank label) q → Blank label ≡ header → q ≡ role.Header
  header_mark label q h at = by (at_header name g o d h.triple h.inside (h.subject ∙ at))
    where
      by : IsAtHeader name o h.triple → q ≡ role.Header
      by (names i) = head_mark q header o.head h.triple i h.marks
      by (annotates i) = absurd (no_header_note h.triple q i h.marks)
      by (says b m p i) = absurd (no_main_mark b m p h.triple q label i h.subject h.marks)

  same_mark : (label : List ℕ) (q r : Role) → HasMark g (Blank label) q → HasMark g (Blank label) r → q ≡ r
  same_mark label q r h i =
      elim (mark_of label q h) [
        | inr a ↦ a.0 ∙ sym (header_mark label r i a.1)
        | inl a ↦
            elim (mark_of label r i) [
              | inl b ↦ a ∙ sym b
              | inr b ↦ header_mark label q h b.1 ∙ sym b.0
            ]
      ]

  -- no node has two roles
  roles_are_apart : (x : Term) → AreApart (roles_of g x)
  unfolding roles_of
  roles_are_apart x = apart_filter (λ r. list_any (marks_role r) (of_subject g x)) marked_roles (apart_by marked_roles refl)

  pub one_role : (label : List ℕ) → is_mixed g (Blank label) ≡ false
  one_role label =
      few_no_two (length (roles_of g (Blank label)))
      (one_at_most (roles_of g (Blank label)) (roles_are_apart (Blank label)) (λ q r m n. same_mark label q r (has_role g (Blank label) q m) (has_role g (Blank label) r n)))

  -- the header is nothing else
  pub header_role : (label : List ℕ) → header ≡ Blank label → (r : Role) → (r ≡ role.Individual → ⊥) → role_of g header ≡ r → r ≡ role.Header
  header_role label at r n e = header_mark label r (marked g (Blank label) r n (ap (role_of g) (sym at) ∙ e)) (sym at)

  -- Where the parts of axioms are.

  made_part : (t : Triple) (label : List ℕ) → t.subject ≡ Blank label → IsPartOfAxiom (role_of g (Blank label)) → IsMade name o t → marks_role (role_of g (Blank label)) t ≡ true → IsPartNode name o (Blank label)
  made_part t label at is (of_head i) h = absurd (part_no_header (role_of g (Blank label)) is (head_mark (role_of g (Blank label)) header o.head t i h))
  made_part t label at is (of_header_note i) h = absurd (no_header_note t (role_of g (Blank label)) i h)
  made_part t label at is (of_axiom b m p (at_end e i j)) h = below_end b m p e i t j at
  made_part t label at is (of_axiom b m p (is_main i)) h = absurd (no_main_mark b m p t (role_of g (Blank label)) label i at h)
  made_part t label at is (of_axiom b m p (at_node e i j)) h = below_stand b m p e i t j at
  made_part t label at is (of_axiom b m p (at_note e i j)) h = absurd (no_stand_note b m e i t (role_of g (Blank label)) j h)

  pub part_node : (label : List ℕ) → IsPartOfAxiom (role_of g (Blank label)) → IsPartNode name o (Blank label)
  part_node label is =
      let r = role_of g (Blank label) in
      let h = marked g (Blank label) r (part_no_individual r is) refl in
      elim (made_cases name o h.triple ((d.holds h.triple).0 h.inside)) [
        | inl own ↦ made_part h.triple label h.subject is own h.marks
        | inr f ↦
            absurd (part_no_note r is (ap (role_of g) (sym h.subject ∙ entry_subjects name f.entry h.triple f.inside) ∙ entry_role k o c name g d drawn single read are f.entry f.among))
      ]

  -- and they are sound
  pub part_sound : (x : Term) → IsPartOfAxiom (role_of g x) → IsPartNode name o x → IsSoundBelow g x
  part_sound x is (below_end b m p e i t j at) = subst (IsSoundBelow g) at (end_sound k o c name g d drawn single read b m p e i t j)
  part_sound x is (below_stand b m p e i t j at) =
      elim (stand_sound k o c name g d drawn single read b m p e i t j) [
        | inl s ↦ absurd (part_no_main (role_of g x) is (ap (role_of g) (sym at ∙ s) ∙ stand_main k o c name g d drawn single read b m p e i))
        | inr s ↦ subst (IsSoundBelow g) at s
      ]
