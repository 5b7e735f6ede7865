-- A graph that holds what is drawn of an ontology has the entries that are drawn, and no other reifications.
use Rattle.std.proofs.Common.{◌≡◌, ◌+◌, ◌⊎◌, ℕ, suc, true, List, [], ◌∷◌, ◌++◌, inl, inr, sym, ◌∙◌, arith}
use Rattle.std.specs.Prelude.{Contains}
use Rattle.std.proofs.lemmas.List.Elements.{Contains-append_cases}
use Rattle.owl_list.proofs.AscendingLaws.{in_head, in_none, in_tail}
use Rattle.owl_tree.specs.Ontologies.{Ontology}
use Rattle.rdf_graph.specs.declared.term.Term.{Term}
use Rattle.rdf_graph.specs.declared.triple.Triple.{Triple}
use Rattle.rdf_meaning.specs.declared.role.Role.TheVariants as role
use Rattle.rdf_meaning.specs.Nodes.{marks_role}
use Rattle.rdf_mapping.specs.Forms.{Arcs, arc_nodes, blank, link, nodes, term_of}
use Rattle.rdf_mapping.specs.Drawing.{Statement, linked, linked_back, looped, standing, unsaid}
use Rattle.rdf_mapping.specs.Notes.{Notes, note_nodes}
use Rattle.rdf_mapping.specs.Graphs.{Group, groups_of, head_triples, header_nodes, header_term, made_triples, notes_from, statement_nodes}
use Rattle.rdf_mapping.specs.Entries.{AreAllBeside, AreEntries, Entry, IsSaid, entry_node, note_entries, note_links, note_roots}
use Rattle.rdf_mapping.specs.EntryLaws.{entry_subjects, link_subjects, notes_drawn}
use Rattle.rdf_mapping.specs.NoterLaws.{entries_are, root_subjects}
use Rattle.rdf_mapping.proofs.SetLaws.{notes_said, sets_said}
use Rattle.rdf_mapping.specs.GraphEntries.{group_entries, group_others, group_roots, made_entries, made_nodes, made_others, made_roots, standing_entries, statement_entries}
use Rattle.rdf_mapping.specs.GroupFrames.{AreStatedApart, group_nodes}
use Rattle.rdf_mapping.proofs.GraphEntryLaws.{made_drawn}
use Rattle.rdf_mapping.specs.Asides.{IsBesideEntries}
use Rattle.rdf_mapping.proofs.AsideLaws.{groups_aside}
use Rattle.rdf_mapping.specs.FormLaws.{same_label}
use Rattle.rdf_mapping.proofs.WholeFrameLaws.{head_subject}
use Rattle.rdf_mapping.proofs.WholeLaws.{marked}
use Rattle.rdf_states.proofs.GraphOf.{IsGraphOf}
use Rattle.rdf_states.proofs.MainNodeLaws.{entry_apart}
use Rattle.rdf_states.specs.Places.{first_number}

-- entries of statements are said

module _ (name : ℕ → List ℕ) where
  abbrev AreSaid : List Entry → Type 0
  AreSaid es = (e : Entry) → Contains es e → IsSaid e

  standing_said : (arcs : Arcs) (sets : List Notes) (n : ℕ) → ((ns : Notes) → Contains sets ns → AreAllBeside ns) → AreSaid (standing_entries name arcs sets n)
  standing_said arcs [] n b e m = absurd (in_none e m)
  standing_said arcs (ns ∷ sets) n b e m =
      let a = n + suc (arc_nodes arcs) in
      let c = n + (suc (arc_nodes arcs) + note_nodes ns) in
      elim (Contains-append_cases (note_entries name (blank name n) ns a) (standing_entries name arcs sets c) e m) [
        | inl i ↦ notes_said name (blank name n) ns a (b ns (in_head ns sets)) e i
        | inr i ↦ standing_said arcs sets c (λ ms j. b ms (in_tail ns sets ms j)) e i
      ]

  statement_said : (s : Statement) (sets : List Notes) (n : ℕ) → ((ns : Notes) → Contains sets ns → AreAllBeside ns) → AreSaid (statement_entries name s sets n)
  statement_said (linked f p g) sets n b = sets_said name (link (term_of name f n) p (term_of name g (n + nodes f))) sets (n + (nodes f + nodes g)) b
  statement_said (linked_back f p g) sets n b = sets_said name (link (term_of name g (n + nodes f)) p (term_of name f n)) sets (n + (nodes f + nodes g)) b
  statement_said (looped p f) sets n b = sets_said name (link (term_of name f n) p (term_of name f n)) sets (n + nodes f) b
  statement_said (standing arcs) sets n b = standing_said arcs sets n b
  statement_said unsaid sets n b = λ e m. absurd (in_none e m)

  groups_said : (gs : List Group) (n : ℕ) → ((g : Group) (ns : Notes) → Contains gs g → Contains g.sets ns → AreAllBeside ns) → AreSaid (group_entries name gs n)
  groups_said [] n b e m = absurd (in_none e m)
  groups_said (g ∷ gs) n b e m =
      let mid = n + statement_nodes g.statement g.sets in
      elim (Contains-append_cases (statement_entries name g.statement g.sets n) (group_entries name gs mid) e m) [
        | inl i ↦ statement_said g.statement g.sets n (λ ns j. b g ns (in_head g gs) j) e i
        | inr i ↦ groups_said gs mid (λ h ns j k. b h ns (in_tail g gs h j) k) e i
      ]

no_individual : role.Note ≡ role.Individual → ⊥
no_individual e = cc

-- Where nothing beside the entries is a mark of a reification, they are the entries of the graph.
module _ (name : ℕ → List ℕ) (g : List Triple) (o : Ontology) (d : IsGraphOf name g o) (stated_apart : AreStatedApart name (made_nodes o) (groups_of o.axioms)) where
  abbrev header : Term
  header = header_term name o.head.name

  abbrev behind : List Entry
  behind = group_entries name (groups_of o.axioms) (first_number o)

  aside : (e : Entry) (x : Term) → Contains (made_entries name o) e → (x ≡ header) ⊎ IsBesideEntries name (made_nodes o) (first_number o) (first_number o + group_nodes (groups_of o.axioms)) behind x → x ≡ entry_node name e → ⊥
  aside e x m place is =
      let a = header_nodes o.head.name in
      let ns = notes_from o.annotations in
      let below = (made_drawn name o).below e m in
      elim place [
        | inl i ↦ entry_apart name g o d e m (sym is ∙ i)
        | inr rest ↦
            elim rest [
              | inl i ↦ i e.number below is
              | inr f ↦
                  let under = f.below in
                  let over = f.from in
                  let same = d.differ e.number f.number below (omega (arith, under)) (same_label (name e.number) (name f.number) (sym is ∙ f.is)) in
                  elim (Contains-append_cases (note_entries name header ns a) behind e m) [
                    | inl j ↦ let up = (notes_drawn name header ns a).below e j in omega (arith, up, over, same)
                    | inr j ↦ f.none e j same
                  ]
            ]
      ]

  pub named_entries : AreAllBeside (notes_from o.annotations) → ((q : Group) (ns : Notes) → Contains (groups_of o.axioms) q → Contains q.sets ns → AreAllBeside ns) → ((t : Triple) → Contains (made_others name o) t → marks_role role.Note t ≡ true → ⊥) → AreEntries name g (made_entries name o)
  named_entries beside each no_marks =
      let most = made_nodes o in
      let a = header_nodes o.head.name in
      let ns = notes_from o.annotations in
      let gs = groups_of o.axioms in
      let b = first_number o in
      let drawn = made_drawn name o in
      let groups = groups_aside name most gs b stated_apart in
      entries_are name most d.differ g a most (made_others name o) (made_roots name o) (made_entries name o) (made_triples name o) (omega arith) drawn
      (record { there = λ t. (d.holds t).1; back = λ t l c. (d.holds t).0 })
      (λ e t m k i.
      elim (Contains-append_cases (head_triples header o.head) (note_links header ns ++ group_others name gs b) t k) [
        | inl j ↦ aside e t.subject m (inl (head_subject header o.head t j)) i
        | inr j ↦
            elim (Contains-append_cases (note_links header ns) (group_others name gs b) t j) [
              | inl l ↦ aside e t.subject m (inl (link_subjects header ns t l)) i
              | inr l ↦ aside e t.subject m (inr (groups.other t l)) i
            ]
      ])
      (λ e f m k i.
      elim (Contains-append_cases (note_roots header ns a) (group_roots name gs b) f k) [
        | inl j ↦ aside e f.triple.subject m (inl (root_subjects header ns a f j)) i
        | inr j ↦ aside e f.triple.subject m (inr (groups.root f j)) i
      ])
      (λ e m.
      elim (Contains-append_cases (note_entries name header ns a) behind e m) [
        | inl j ↦ notes_said name header ns a beside e j
        | inr j ↦ groups_said name gs b each e j
      ])
      (λ x r.
      let k = marked g x role.Note no_individual r in
      elim (drawn.cases k.triple ((d.holds k.triple).0 k.inside)) [
        | inl j ↦ absurd (no_marks k.triple j k.marks)
        | inr j ↦ record { entry = j.entry; among = j.among; is = sym k.subject ∙ entry_subjects name j.entry k.triple j.inside }
      ])
