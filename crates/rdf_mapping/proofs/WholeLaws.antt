-- The graph of an ontology has the entries that are drawn, and no other reifications.
use Rattle.std.proofs.Common.{◌≡◌, ◌≤◌, ◌<◌, ◌+◌, ◌*◌, ◌^◌, ◌⊎◌, ℕ, suc, true, List, [], ◌∷◌, ◌++◌, length, inl, inr, sym, ◌∙◌, subst, arith}
use Rattle.std.specs.Prelude.{Contains, Option, None, Some}
use Rattle.std.specs.List.{list_any}
use Rattle.std.proofs.lemmas.List.Elements.{Contains-append_cases}
use Rattle.owl_list.proofs.AscendingLaws.{in_head, in_none, in_tail}
use Rattle.owl_tree.specs.Ontologies.{Ontology, OntologyName}
use Rattle.rdf_graph.specs.declared.term.Term.{Term}
use Rattle.rdf_graph.specs.declared.term.Term.TheVariants.{Iri, Blank, Literal}
use Rattle.rdf_graph.specs.declared.triple.Triple.{Triple}
use Rattle.rdf_meaning.specs.declared.role.Role.{Role}
use Rattle.rdf_meaning.specs.declared.role.Role.TheVariants as role
use Rattle.owl_list.proofs.FilterLaws.{from_filter}
use Rattle.rdf_meaning.proofs.ListLaws.{some_passes}
use Rattle.rdf_meaning.proofs.NodeLaws.{from_subject}
use Rattle.rdf_meaning.specs.Nodes.{first_role, marked_roles, marks_role, of_subject, role_of, roles_of}
use Rattle.rdf_mapping.specs.Forms.{Arcs, arc_nodes, blank, link, nodes, term_of}
use Rattle.rdf_mapping.specs.Drawing.{Statement, linked, linked_back, looped, standing, unsaid}
use Rattle.rdf_mapping.specs.Frames.{AreNamedApart}
use Rattle.blank_labels.specs.FreshLabels.{fresh_name}
use Rattle.rdf_mapping.specs.Notes.{Notes, note_nodes}
use Rattle.rdf_mapping.specs.Graphs.{Group, graph_of, groups_of, head_triples, header_nodes, header_term, labels_of, made_triples, notes_from, statement_nodes}
use Rattle.rdf_mapping.specs.Entries.{AreAllBeside, AreEntries, Entry, IsSaid, entry_node, note_entries, note_links, note_roots}
use Rattle.rdf_mapping.specs.EntryLaws.{entry_subjects, link_subjects, notes_drawn}
use Rattle.rdf_mapping.specs.NoterLaws.{entries_are, root_subjects}
use Rattle.rdf_mapping.proofs.SetLaws.{notes_said, sets_said}
use Rattle.rdf_mapping.specs.GraphEntries.{group_entries, group_others, group_roots, made_entries, made_nodes, made_others, made_roots, standing_entries, statement_entries}
use Rattle.rdf_mapping.specs.GroupFrames.{AreStatedApart, group_nodes}
use Rattle.rdf_mapping.proofs.GraphEntryLaws.{made_drawn}
use Rattle.rdf_mapping.specs.Asides.{IsBesideEntries}
use Rattle.rdf_mapping.proofs.AsideLaws.{groups_aside}
use Rattle.rdf_mapping.specs.FormLaws.{same_label}
use Rattle.rdf_mapping.specs.GraphLaws.{graph_holds, graph_keeps}
use Rattle.rdf_mapping.proofs.WholeFrameLaws.{fresh_named_apart, head_subject}

-- entries of statements are said

standing_said : (name : ℕ → List ℕ) (arcs : Arcs) (sets : List Notes) (n : ℕ) → ((ns : Notes) → Contains sets ns → AreAllBeside ns) → (e : Entry) → Contains (standing_entries name arcs sets n) e → IsSaid e
standing_said name arcs [] n b e m = absurd (in_none e m)
standing_said name arcs (ns ∷ sets) n b e m =
    let a = n + suc (arc_nodes arcs) in
    let c = n + (suc (arc_nodes arcs) + note_nodes ns) in
    elim (Contains-append_cases (note_entries name (blank name n) ns a) (standing_entries name arcs sets c) e m) [
      | inl i ↦ notes_said name (blank name n) ns a (b ns (in_head ns sets)) e i
      | inr i ↦ standing_said name arcs sets c (λ ms j. b ms (in_tail ns sets ms j)) e i
    ]

statement_said : (name : ℕ → List ℕ) (s : Statement) (sets : List Notes) (n : ℕ) → ((ns : Notes) → Contains sets ns → AreAllBeside ns) → (e : Entry) → Contains (statement_entries name s sets n) e → IsSaid e
statement_said name (linked f p g) sets n b e m = sets_said name (link (term_of name f n) p (term_of name g (n + nodes f))) sets (n + (nodes f + nodes g)) b e m
statement_said name (linked_back f p g) sets n b e m = sets_said name (link (term_of name g (n + nodes f)) p (term_of name f n)) sets (n + (nodes f + nodes g)) b e m
statement_said name (looped p f) sets n b e m = sets_said name (link (term_of name f n) p (term_of name f n)) sets (n + nodes f) b e m
statement_said name (standing arcs) sets n b e m = standing_said name arcs sets n b e m
statement_said name unsaid sets n b e m = absurd (in_none e m)

groups_said : (name : ℕ → List ℕ) (gs : List Group) (n : ℕ) → ((g : Group) (ns : Notes) → Contains gs g → Contains g.sets ns → AreAllBeside ns) → (e : Entry) → Contains (group_entries name gs n) e → IsSaid e
groups_said name [] n b e m = absurd (in_none e m)
groups_said name (g ∷ gs) n b e m =
    let mid = n + statement_nodes g.statement g.sets in
    elim (Contains-append_cases (statement_entries name g.statement g.sets n) (group_entries name gs mid) e m) [
      | inl i ↦ statement_said name g.statement g.sets n (λ ns j. b g ns (in_head g gs) j) e i
      | inr i ↦ groups_said name gs mid (λ h ns j k. b h ns (in_tail g gs h j) k) e i
    ]

-- a node with a role has a mark of it

first_is : (rs : List Role) (r : Role) → (r ≡ role.Individual → ⊥) → first_role rs ≡ r → Contains rs r
first_is [] r n e = absurd (n (sym e))
first_is (q ∷ rs) r n e = subst (λ (z : Role). Contains (q ∷ rs) z) e (in_head q rs)

pub record HasMark (g : List Triple) (x : Term) (r : Role) : Type 0 where
  pub triple : Triple
  pub inside : Contains g triple
  pub subject : triple.subject ≡ x
  pub marks : marks_role r triple ≡ true

pub has_role : (g : List Triple) (x : Term) (r : Role) → Contains (roles_of g x) r → HasMark g x r
unfolding roles_of
has_role g x r m =
    let k = from_filter (λ q. list_any (marks_role q) (of_subject g x)) marked_roles r m in
    let p = some_passes (marks_role r) (of_subject g x) k.passes in
    let at = from_subject g x p.element p.inside in
    record { triple = p.element; inside = at.0; subject = at.1; marks = p.passes }

pub marked : (g : List Triple) (x : Term) (r : Role) → (r ≡ role.Individual → ⊥) → role_of g x ≡ r → HasMark g x r
marked g (Iri iri) r n e = absurd (n (sym e))
marked g (Literal literal) r n e = absurd (n (sym e))
marked g (Blank label) r n e = has_role g (Blank label) r (first_is (roles_of g (Blank label)) r n e)

no_individual : role.Note ≡ role.Individual → ⊥
no_individual e = cc

no_blank : (iri label : List ℕ) → Iri iri ≡ Blank label → ⊥
no_blank iri label e = cc

-- the header is no node of an entry

header_aside : (name : ℕ → List ℕ) (most : ℕ) → AreNamedApart name most → (n : Option OntologyName) (k : ℕ) → header_nodes n ≤ k → k < most → header_term name n ≡ blank name k → ⊥
header_aside name most differ None k from below e = let same = differ 0 k (omega (arith, below)) below (same_label (name 0) (name k) e) in omega (arith, from, same)
header_aside name most differ (Some n) k from below e = no_blank n.iri (name k) e

-- Where nothing beside the entries is a mark of a reification, they are the entries of the graph.
module _ (o : Ontology) (few : made_nodes o + length (labels_of o) ≤ 9 * 10 ^ 18) (stated_apart : AreStatedApart (fresh_name (labels_of o)) (made_nodes o) (groups_of o.axioms)) where
  aside : (e : Entry) (x : Term) → Contains (made_entries (fresh_name (labels_of o)) o) e → (x ≡ header_term (fresh_name (labels_of o)) o.head.name) ⊎ IsBesideEntries (fresh_name (labels_of o)) (made_nodes o) (header_nodes o.head.name + note_nodes (notes_from o.annotations)) (header_nodes o.head.name + note_nodes (notes_from o.annotations) + group_nodes (groups_of o.axioms)) (group_entries (fresh_name (labels_of o)) (groups_of o.axioms) (header_nodes o.head.name + note_nodes (notes_from o.annotations))) x → x ≡ entry_node (fresh_name (labels_of o)) e → ⊥
  aside e x m place is =
      let name = fresh_name (labels_of o) in
      let most = made_nodes o in
      let a = header_nodes o.head.name in
      let ns = notes_from o.annotations in
      let b = a + note_nodes ns in
      let h = header_term name o.head.name in
      let differ = fresh_named_apart (labels_of o) (made_nodes o) few in
      let d = made_drawn name o in
      let below = d.below e m in
      let from = d.from e m in
      elim place [
        | inl i ↦ header_aside name most differ o.head.name e.number from below (sym i ∙ is)
        | inr rest ↦
            elim rest [
              | inl i ↦ i e.number below is
              | inr f ↦
                  let under = f.below in
                  let over = f.from in
                  let same = differ e.number f.number below (omega (arith, under)) (same_label (name e.number) (name f.number) (sym is ∙ f.is)) in
                  elim (Contains-append_cases (note_entries name h ns a) (group_entries name (groups_of o.axioms) b) e m) [
                    | inl j ↦ let up = (notes_drawn name h ns a).below e j in omega (arith, up, over, same)
                    | inr j ↦ f.none e j same
                  ]
            ]
      ]

  pub graph_entries : AreAllBeside (notes_from o.annotations) → ((g : Group) (ns : Notes) → Contains (groups_of o.axioms) g → Contains g.sets ns → AreAllBeside ns) → ((t : Triple) → Contains (made_others (fresh_name (labels_of o)) o) t → marks_role role.Note t ≡ true → ⊥) → AreEntries (fresh_name (labels_of o)) (graph_of o) (made_entries (fresh_name (labels_of o)) o)
  graph_entries beside each no_marks =
      let name = fresh_name (labels_of o) in
      let most = made_nodes o in
      let a = header_nodes o.head.name in
      let ns = notes_from o.annotations in
      let gs = groups_of o.axioms in
      let b = a + note_nodes ns in
      let h = header_term name o.head.name in
      let es = made_entries name o in
      let d = made_drawn name o in
      let groups = groups_aside name most gs b stated_apart in
      entries_are name most (fresh_named_apart (labels_of o) (made_nodes o) few) (graph_of o) a most (made_others name o) (made_roots name o) es (made_triples name o) (omega arith) d (graph_keeps o a most)
      (λ e t m k i.
      elim (Contains-append_cases (head_triples h o.head) (note_links h ns ++ group_others name gs b) t k) [
        | inl j ↦ aside e t.subject m (inl (head_subject h o.head t j)) i
        | inr j ↦
            elim (Contains-append_cases (note_links h ns) (group_others name gs b) t j) [
              | inl l ↦ aside e t.subject m (inl (link_subjects h ns t l)) i
              | inr l ↦ aside e t.subject m (inr (groups.other t l)) i
            ]
      ])
      (λ e f m k i.
      elim (Contains-append_cases (note_roots h ns a) (group_roots name gs b) f k) [
        | inl j ↦ aside e f.triple.subject m (inl (root_subjects h ns a f j)) i
        | inr j ↦ aside e f.triple.subject m (inr (groups.root f j)) i
      ])
      (λ e m.
      elim (Contains-append_cases (note_entries name h ns a) (group_entries name gs b) e m) [
        | inl j ↦ notes_said name h ns a beside e j
        | inr j ↦ groups_said name gs b each e j
      ])
      (λ x r.
      let k = marked (graph_of o) x role.Note no_individual r in
      elim (d.cases k.triple ((graph_holds o k.triple).0 k.inside)) [
        | inl j ↦ absurd (no_marks k.triple j k.marks)
        | inr j ↦ record { entry = j.entry; among = j.among; is = sym k.subject ∙ entry_subjects name j.entry k.triple j.inside }
      ])
