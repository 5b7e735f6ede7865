-- Nothing of a graph of the ontology is passed over, so that it says the ontology.
use Rattle.std.proofs.Common.{◌≡◌, ◌<◌, ◌⊎◌, ℕ, suc, true, false, List, length, inl, inr, refl, sym, ap, ◌∙◌, subst, arith}
use Rattle.std.specs.Prelude.{Contains, IsTrue, not, ◌&&◌, ◌||◌}
use Rattle.std.proofs.lemmas.Bool.{and_from, both_ways, or_left, or_right}
use Rattle.owl_kind.specs.declared.kind.Kind.TheVariants as kind
use Rattle.owl_kind.specs.Kinds.{Entity}
use Rattle.owl_tree.specs.Ontologies.{Ontology}
use Rattle.owl_tree.specs.Trees.{Tree, tag_of}
use Rattle.rdf_graph.specs.declared.term.Term.{Term}
use Rattle.rdf_graph.specs.declared.term.Term.TheVariants.{Iri, Blank, Literal}
use Rattle.rdf_graph.specs.declared.triple.Triple.{Triple}
use Rattle.rdf_meaning.specs.declared.role.Role.{Role}
use Rattle.rdf_meaning.specs.declared.role.Role.TheVariants as role
use Rattle.rdf_meaning.specs.Denotation.{of_node}
use Rattle.rdf_meaning.proofs.GroundLaws.{leads_grounded, no_cycle, sound_grounded}
use Rattle.rdf_meaning.specs.Kinds.{has_kind}
use Rattle.owl_list.proofs.FilterLaws.{from_filter}
use Rattle.rdf_meaning.proofs.NodeLaws.{from_subject, nodes_are}
use Rattle.rdf_meaning.specs.Nodes.{carries_some, is_iri, is_own, is_role, is_same, is_structural, nodes_of, of_subject, role_of, words_of}
use Rattle.rdf_meaning.proofs.RowLaws.{own_role}
use Rattle.rdf_meaning.specs.Rows.{axiom_rows}
use Rattle.rdf_meaning.specs.Sound.{IsSoundBelow}
use Rattle.rdf_meaning.proofs.SoundLaws.{main_leads}
use Rattle.rdf_meaning.specs.Statements.{HasRow, IsAxiomWith, InSteps, one_step, one_more, IsDirectlyBelow, IsDirectlyNotedUnder, IsGrounded, IsPartOfAxiom, IsReached, at_root, below_root, below_axiom, IsReification, IsRoot, is_subject, is_object, IsSoundAs, IsWhole, ReifiesSome, an_axiom, an_annotation, Says, header_words, is_annotation_triple, is_axiom_predicate, main_triples, notes_of, reifies}
use Rattle.rdf_mapping.specs.Drawing.{statement_of}
use Rattle.rdf_mapping.proofs.AsideLaws.{set_root_triples}
use Rattle.rdf_mapping.specs.Entries.{AreEntries, Entry, IsBelowEntry, entry_node, entry_roots}
use Rattle.rdf_mapping.specs.EntryLaws.{entry_subjects, link_subjects, notes_drawn}
use Rattle.rdf_mapping.specs.GraphEntries.{made_entries, made_nodes}
use Rattle.rdf_mapping.proofs.GraphEntryLaws.{made_drawn}
use Rattle.rdf_mapping.specs.Graphs.{bare_axioms, header_nodes, header_term, notes_from, sets_of}
use Rattle.rdf_mapping.proofs.MainLaws.{node_iri}
use Rattle.rdf_mapping.proofs.NoAxiomLaws.{header_note}
use Rattle.rdf_mapping.specs.NoteLaws.{notes_entry, one_type_chosen, property_is, reifies_entry, source_is, target_is}
use Rattle.rdf_mapping.proofs.SortLaws.{structural_has_role, structural_of_node}
use Rattle.rdf_mapping.proofs.WholeFrameLaws.{head_subject}
use Rattle.rdf_mapping.specs.FormLaws.{same_label}
use Rattle.rdf_axioms.specs.AxiomReading.{main_of}
use Rattle.rdf_states.proofs.GraphOf.{AreReadBack, AreWellDrawn, IsGraphOf, LabelsAreSingle}
use Rattle.rdf_states.proofs.HeadLaws.{notes_there as header_links, root_links}
use Rattle.rdf_states.proofs.MainNodeLaws.{IsStandNode, entry_role, main_is_stand}
use Rattle.rdf_states.proofs.PartNodeLaws.{IsPartNode, below_end, below_stand, header_role, one_role, part_no_main, part_node, part_sound}
use Rattle.rdf_states.specs.Places.{IsMade, of_head, of_header_note, of_axiom, at_end, is_main, at_node, at_note, of_main, of_stand, Stand, StandsAt, first_number, notes_at, sets_at, stand_node, stands_of}
use Rattle.rdf_states.specs.PlaceLaws.{IsRootMade, of_header, of_place, in_mains, made_cases, made_root}
use Rattle.rdf_states.proofs.ReadLaws.{end_below, end_sound, lead_under, main_sound, read_at, stand_main, stand_sound, stand_under}
use Rattle.rdf_states.proofs.RoleLaws.{note_is_no_main, sound_no_note}
use Rattle.rdf_states.proofs.SetReadLaws.{stand_links}
use Rattle.rdf_states.proofs.SideLaws.{place_says}
use Rattle.rdf_states.proofs.SortedLaws.{header_property, main_triples_are}
use Rattle.rdf_states.specs.Stated.{CanBeStated}
use Rattle.rdf_states.proofs.StatesLaws.{states, states_header}
use Rattle.rdf_states.specs.UnderLaws.{IsUnder, sound_is, sound_under, under_steps}

-- the first term of a way up is below some other
below_some : (step : Term → Term → Type 0) (y x : Term) → InSteps step y x → (z : Term) × step z x
below_some step _ _ (one_step y x s) = (y, s)
below_some step _ _ (one_more y z x s h) = below_some step z x h

no_header_words : (t : Triple) → is_own role.Header t ≡ true → ⊥
unfolding words_of
no_header_words t h = both_ways false refl h

module _ (k : List Entity) (o : Ontology) (c : CanBeStated k o) (name : ℕ → List ℕ) (g : List Triple) (d : IsGraphOf name g o) (drawn : AreWellDrawn name o) (single : LabelsAreSingle g o) (read : AreReadBack name g k o) (are : AreEntries name g (made_entries name o)) where
  abbrev header : Term
  header = header_term name o.head.name

  abbrev es : List Entry
  es = made_entries name o

  -- Each node is sound.

  stand_row : (x : Term) → IsStandNode name o x → HasRow g axiom_rows x
  stand_row x s =
      let r = read_at k o c.can_be_drawn name g d drawn single read s.bare s.number s.place in
      let said = subst (λ (y : Term). IsAxiomWith g k (of_node y) (tag_of r.tree) r.read.kids) (sym s.is) (r.stand s.stand s.among) in
      record { row = said.row; among = said.among; fits = said.fits }

  entry_sound : (e : Entry) → Contains es e → IsReification g (entry_node name e)
  entry_sound e m =
      let said = are.said e m in
      let own = are.own e m in
      record {
        one_type = one_type_chosen name g d.apart e said own;
        one_source = ap (λ (xs : List Term). length xs) (source_is name g d.apart e said own);
        one_property = ap (λ (xs : List Term). length xs) (property_is name g d.apart e said own);
        one_target = ap (λ (xs : List Term). length xs) (target_is name g d.apart e said own);
      }

  part_as : (label : List ℕ) (r : Role) → role_of g (Blank label) ≡ r → IsPartOfAxiom r → IsSoundAs g r (Blank label)
  part_as label r e p =
      let is = subst IsPartOfAxiom (sym e) p in
      let s = part_sound k o c.can_be_drawn name g d drawn single read are (Blank label) is (part_node k o c.can_be_drawn name g d drawn single read are label is) in
      elim (sound_is g (Blank label) s) [
        | inl i ↦ absurd (subst IsPartOfAxiom i is)
        | inr h ↦ subst (λ (q : Role). IsSoundAs g q (Blank label)) e h.sound
      ]

  sound_by : (label : List ℕ) (r : Role) → role_of g (Blank label) ≡ r → IsSoundAs g r (Blank label)
  sound_by label role.List e = part_as label role.List e tt
  sound_by label role.Property e = part_as label role.Property e tt
  sound_by label role.Class e = part_as label role.Class e tt
  sound_by label role.Range e = part_as label role.Range e tt
  sound_by label role.Facet e = part_as label role.Facet e tt
  sound_by label role.Main e = stand_row (Blank label) (main_is_stand k o c.can_be_drawn name g d drawn single read are (Blank label) e)
  sound_by label role.Note e = let n = are.all (Blank label) e in subst (λ (x : Term). IsReification g x) (sym n.is) (entry_sound n.entry n.among)
  sound_by label role.Header e = tt
  sound_by label role.Individual e = tt

  -- No node is below itself.

  stand_grounded : (b : Tree) (m : ℕ) (p : StandsAt o b m) (e : Stand) → Contains (stands_of (statement_of b) (sets_of b o.axioms) m) e → IsGrounded g (stand_node name e)
  stand_grounded b m p e i =
      let r = read_at k o c.can_be_drawn name g d drawn single read b m p in
      leads_grounded g (stand_node name e) (main_leads g k (stand_node name e) (tag_of r.tree) r.read.kids (r.stand e i))

  structural_role : (t : Triple) (r : Role) → role_of g t.subject ≡ r → is_structural g t ≡ true → is_own r t ≡ true
  unfolding is_structural
  structural_role t r e h = subst (λ (q : Role). is_own q t ≡ true) e h

  no_header_structural : (t : Triple) → t.subject ≡ header → is_structural g t ≡ true → ⊥
  no_header_structural t at h = by header refl
    where
      by : (x : Term) → header ≡ x → ⊥
      by (Iri iri) e = structural_has_role g t h (ap (role_of g) (at ∙ e))
      by (Literal literal) e = structural_has_role g t h (ap (role_of g) (at ∙ e))
      by (Blank label) e =
          let r = role_of g header in
          let is = header_role k o c.can_be_drawn name g d drawn single read are label e r (λ i. structural_has_role g t h (ap (role_of g) at ∙ i)) refl in
          no_header_words t (structural_role t role.Header (ap (role_of g) at ∙ is) h)

  iri_single : (x : Term) → is_iri x ≡ true → role_of g x ≡ role.Individual
  iri_single (Iri iri) h = refl
  iri_single (Blank label) h = absurd (both_ways false refl h)
  iri_single (Literal literal) h = absurd (both_ways false refl h)

  made_grounded : (t : Triple) → is_structural g t ≡ true → IsMade name o t → IsGrounded g t.subject
  made_grounded t h (of_head i) = absurd (no_header_structural t (head_subject header o.head t i) h)
  made_grounded t h (of_header_note i) = absurd (no_header_structural t (link_subjects header (notes_from o.annotations) t i) h)
  made_grounded t h (of_axiom b m p (at_end e i j)) = sound_grounded g t.subject (end_sound k o c.can_be_drawn name g d drawn single read b m p e i t j)
  made_grounded t h (of_axiom b m p (is_main i)) =
      absurd (structural_has_role g t h (iri_single t.subject (node_iri t (place_says name o drawn b m p t i) (structural_of_node g t h))))
  made_grounded t h (of_axiom b m p (at_node e i j)) =
      elim (stand_sound k o c.can_be_drawn name g d drawn single read b m p e i t j) [
        | inl s ↦ subst (IsGrounded g) (sym s) (stand_grounded b m p e i)
        | inr s ↦ sound_grounded g t.subject s
      ]
  made_grounded t h (of_axiom b m p (at_note e i j)) = subst (IsGrounded g) (sym (link_subjects (stand_node name e) e.notes t j)) (stand_grounded b m p e i)

  no_way_round : (x : Term) → InSteps (IsDirectlyBelow g) x x → ⊥
  no_way_round x h =
      let b = (below_some (IsDirectlyBelow g) x x h).1 in
      elim (made_cases name o b.triple ((d.holds b.triple).0 b.inside)) [
        | inl own ↦ no_cycle g x (subst (IsGrounded g) b.subject (made_grounded b.triple b.structural own)) h
        | inr f ↦ b.no_note (ap (role_of g) (sym b.subject ∙ entry_subjects name f.entry b.triple f.inside) ∙ entry_role k o c.can_be_drawn name g d drawn single read are f.entry f.among)
      ]

  -- No reification is noted under itself, since what is noted under another has a greater number.

  record IsBehind (y x : Term) : Type 0 where
    pub upper : Entry
    pub lower : Entry
    pub among : Contains es upper
    pub under : Contains es lower
    pub is_upper : y ≡ entry_node name upper
    pub is_lower : x ≡ entry_node name lower
    pub less : lower.number < upper.number

  root_behind : (e f : Entry) → Contains (entry_roots name f) e → f.number < e.number
  root_behind e f m =
      let drawn_notes = notes_drawn name (entry_node name f) f.notes (suc f.number) in
      let from = drawn_notes.from e (drawn_notes.root e m) in
      omega (arith, from)

  noted_behind : (s r : Term) → IsDirectlyNotedUnder g s r → IsBehind s r
  noted_behind s r u =
      let a = are.all s u.note in
      let b = are.all r u.under in
      let e = a.entry in
      let f = b.entry in
      let same = (reifies_entry name g d.apart e (are.said e a.among) (are.own e a.among) u.triple).0 (subst (λ (x : Term). reifies g x u.triple ≡ true) a.is u.reified) in
      let link = (notes_entry name g d.apart f (are.said f b.among) (are.own f b.among) u.triple).0 (subst (λ (x : Term). Contains (notes_of g x) u.triple) b.is u.annotation) in
      let at : e.triple.subject ≡ entry_node name f = ap (λ (t : Triple). t.subject) same ∙ link_subjects (entry_node name f) f.notes u.triple link in
      record { upper = e; lower = f; among = a.among; under = b.among; is_upper = a.is; is_lower = b.is; less = root_behind e f (are.below f e b.among a.among at) }

  same_numbers : (e f : Entry) → Contains es e → Contains es f → entry_node name e ≡ entry_node name f → e.number ≡ f.number
  same_numbers e f m n h = d.differ e.number f.number ((made_drawn name o).below e m) ((made_drawn name o).below f n) (same_label (name e.number) (name f.number) h)

  steps_behind : (y x : Term) → InSteps (IsDirectlyNotedUnder g) y x → IsBehind y x
  steps_behind _ _ (one_step y x s) = noted_behind y x s
  steps_behind _ _ (one_more y z x s h) =
      let a = noted_behind y z s in
      let b = steps_behind z x h in
      let same = same_numbers a.lower b.upper a.under b.among (sym a.is_lower ∙ b.is_upper) in
      let up = a.less in
      let down = b.less in
      record { upper = a.upper; lower = b.lower; among = a.among; under = b.under; is_upper = a.is_upper; is_lower = b.is_lower; less = omega (arith, up, down, same) }

  no_notes_round : (s : Term) → InSteps (IsDirectlyNotedUnder g) s s → ⊥
  no_notes_round s h =
      let b = steps_behind s s h in
      let same = same_numbers b.upper b.lower b.among b.under (sym b.is_upper ∙ b.is_lower) in
      let up = b.less in
      omega (arith, up, same)

  -- Each reification is of an axiom or of an annotation.

  own_reified : (e : Entry) → Contains es e → IsTrue (reifies g (entry_node name e) e.triple)
  own_reified e m = (reifies_entry name g d.apart e (are.said e m) (are.own e m) e.triple).1 refl

  noted_annotation : (t : Triple) (x : Term) → t.subject ≡ x → (role_of g x ≡ role.Main) ⊎ (role_of g x ≡ role.Note) → Contains (notes_of g x) t → IsTrue (is_annotation_triple g k header t)
  unfolding is_annotation_triple notes_of
  noted_annotation t x at r m =
      let kept = from_filter (λ u. not (is_structural g u)) (of_subject g x) t m in
      let a = is_role role.Main (role_of g t.subject) in
      let b = is_role role.Note (role_of g t.subject) in
      let noted : a || b ≡ true =
      elim r [
        | inl e ↦ or_left a b (ap (λ (y : Term). is_role role.Main (role_of g y)) at ∙ ap (is_role role.Main) e ∙ own_role role.Main)
        | inr e ↦ or_right a b (ap (λ (y : Term). is_role role.Note (role_of g y)) at ∙ ap (is_role role.Note) e ∙ own_role role.Note)
      ] in
      or_right (is_same t.subject header && not (carries_some header_words t) && has_kind k kind.AnnotationProperty t.predicate && not (is_axiom_predicate t.predicate)) ((a || b) && not (is_structural g t))
      (and_from (a || b) (not (is_structural g t)) noted kept.passes)

  in_notes : (x : Term) (t : Triple) → Contains (notes_of g x) t → Contains g t
  unfolding notes_of
  in_notes x t m = (from_subject g x t (from_filter (λ u. not (is_structural g u)) (of_subject g x) t m).inside).0

  noted_some : (e : Entry) → Contains es e → (x : Term) → e.triple.subject ≡ x → (role_of g x ≡ role.Main) ⊎ (role_of g x ≡ role.Note) → Contains (notes_of g x) e.triple → ReifiesSome g k header (entry_node name e)
  noted_some e m x at r i = an_annotation e.triple (in_notes x e.triple i) (noted_annotation e.triple x at r i) (own_reified e m)

  root_some : (e : Entry) → Contains es e → IsRootMade name o e → ReifiesSome g k header (entry_node name e)
  root_some e m (of_header j) =
      let link = root_links header (notes_from o.annotations) (header_nodes o.head.name) e j in
      let p = header_property k o c.can_be_drawn header e.triple link in
      an_annotation e.triple (header_links k o c name g d drawn single read are e.triple link)
      (header_note g k header e.triple (link_subjects header (notes_from o.annotations) e.triple link) p.free p.property) (own_reified e m)
  root_some e m (of_place b l p (of_main t j h)) =
      let same = set_root_triples name (made_nodes o) t (sets_of b o.axioms) (sets_at (statement_of b) l) e h in
      let main = (main_triples_are k o c name g d drawn single read are t).1 (in_mains o.axioms name b l (bare_axioms o.axioms) (first_number o) p t j) in
      an_axiom e.triple (subst (λ (u : Triple). Contains (main_triples g k header) u) same main) (own_reified e m)
  root_some e m (of_place b l p (of_stand s j h)) =
      let link = root_links (stand_node name s) s.notes (notes_at s) e h in
      noted_some e m (stand_node name s) (link_subjects (stand_node name s) s.notes e.triple link) (inl (stand_main k o c.can_be_drawn name g d drawn single read b l p s j))
      ((stand_links k o c name g d drawn single read are b l p s j e.triple).1 link)

  below_some_entry : (e : Entry) → Contains es e → IsBelowEntry name es e → ReifiesSome g k header (entry_node name e)
  below_some_entry e m b =
      let f = b.entry in
      let link = root_links (entry_node name f) f.notes (suc f.number) e b.inside in
      noted_some e m (entry_node name f) (link_subjects (entry_node name f) f.notes e.triple link) (inr (entry_role k o c.can_be_drawn name g d drawn single read are f b.among))
      ((notes_entry name g d.apart f (are.said f b.among) (are.own f b.among) e.triple).1 link)

  entry_some : (e : Entry) → Contains es e → ReifiesSome g k header (entry_node name e)
  entry_some e m = elim ((made_drawn name o).parent e m) [ inl r ↦ root_some e m (made_root name o e r) | inr b ↦ below_some_entry e m b ]

  note_no_individual : role.Note ≡ role.Individual → ⊥
  note_no_individual e = cc

  each_reification : (s : Term) → Contains (nodes_of g role.Note) s → ReifiesSome g k header s
  each_reification s i =
      let n = are.all s ((nodes_are g role.Note s note_no_individual).0 i) in
      subst (ReifiesSome g k header) (sym n.is) (entry_some n.entry n.among)

  -- Each part of an axiom is reached.

  in_main_triples : (b : Tree) (m : ℕ) (p : StandsAt o b m) (t : Triple) → Contains (main_of name (statement_of b) m) t → Contains (main_triples g k header) t
  in_main_triples b m p t i = (main_triples_are k o c name g d drawn single read are t).1 (in_mains o.axioms name b m (bare_axioms o.axioms) (first_number o) p t i)

  from_root : (x y : Term) → IsRoot g k header x → IsSoundBelow g x → IsUnder g x y → IsReached g k header y
  from_root x y root s u =
      elim (under_steps g x y u (λ z v. sound_no_note g z (sound_under g x z v s))) [
        | inl e ↦ at_root y (subst (IsRoot g k header) (sym e) root)
        | inr h ↦ below_root y x root h
      ]

  from_stand : (x y : Term) (b : Tree) (m : ℕ) (p : StandsAt o b m) (e : Stand) → Contains (stands_of (statement_of b) (sets_of b o.axioms) m) e → x ≡ stand_node name e → IsUnder g (stand_node name e) y → IsPartOfAxiom (role_of g y) → IsReached g k header y
  from_stand x y b m p e i at u is =
      let main = stand_main k o c.can_be_drawn name g d drawn single read b m p e i in
      let r = read_at k o c.can_be_drawn name g d drawn single read b m p in
      let leads = main_leads g k (stand_node name e) (tag_of r.tree) r.read.kids (r.stand e i) in
      let no_note : (z : Term) → IsUnder g (stand_node name e) z → role_of g z ≡ role.Note → ⊥ =
      λ z v n. elim (lead_under g (stand_node name e) z leads v) [
        | inl s ↦ note_is_no_main (sym main ∙ ap (role_of g) (sym s) ∙ n)
        | inr s ↦ sound_no_note g z s n
      ] in
      elim (under_steps g (stand_node name e) y u no_note) [
        | inl s ↦ absurd (part_no_main (role_of g y) is (ap (role_of g) s ∙ main))
        | inr h ↦ below_axiom y (stand_node name e) main h
      ]

  part_reached : (x : Term) → IsPartOfAxiom (role_of g x) → IsPartNode name o x → IsReached g k header x
  part_reached x is (below_end b m p e i t j at) =
      let h = end_below k o c.can_be_drawn name g d drawn single read b m p e i t j in
      let main = in_main_triples b m p h.triple h.main in
      let ends = main_sound k o c.can_be_drawn name g d drawn single read b m p h.triple h.main in
      subst (IsReached g k header) at
      (elim h.under [
        | inl u ↦ from_root h.triple.subject t.subject (is_subject h.triple main) ends.0 u
        | inr u ↦ from_root h.triple.object t.subject (is_object h.triple main) ends.1 u
      ])
  part_reached x is (below_stand b m p e i t j at) =
      from_stand (stand_node name e) x b m p e i refl (subst (IsUnder g (stand_node name e)) at (stand_under k o c.can_be_drawn name g d drawn single read b m p e i t j)) is

  -- nothing of the graph is passed over
  pub whole : IsWhole g k header
  whole = record {
    one_role = one_role k o c.can_be_drawn name g d drawn single read are;
    sound = λ label. sound_by label (role_of g (Blank label)) refl;
    no_cycle = no_way_round;
    no_cycle_of_notes = no_notes_round;
    reifications = each_reification;
    reached = λ label is. part_reached (Blank label) is (part_node k o c.can_be_drawn name g d drawn single read are label is);
  }

  -- The graph says the ontology.
  pub says : Says g k o
  says =
      record {
        states = states k o c name g d drawn single read are;
        whole = subst (IsWhole g k) (sym (states_header k o c name g d drawn single read are)) whole;
      }
