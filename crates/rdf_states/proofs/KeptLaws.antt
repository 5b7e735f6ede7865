-- What a graph keeps of a statement: its triple, its ends, and the nodes that stand for it, which are read back as the axiom.
use Rattle.std.proofs.Common.{◌≡◌, ◌≤◌, ◌<◌, ◌+◌, ℕ, suc, true, false, List, [], ◌∷◌, ◌++◌, inl, inr, refl, sym, ◌∙◌, subst, arith}
use Rattle.std.specs.Prelude.{Contains}
use Rattle.std.proofs.lemmas.Bool.{both_ways}
use Rattle.std.proofs.lemmas.List.Elements.{Contains-append_cases, Contains-append_left, Contains-append_right}
use Rattle.owl_kind.specs.Kinds.{Entity}
use Rattle.owl_list.proofs.AscendingLaws.{in_cases, in_head, in_none, in_tail}
use Rattle.owl_tree.specs.declared.tag.Tag.{Tag}
use Rattle.owl_tree.specs.Trees.{Tree}
use Rattle.rdf_graph.specs.declared.term.Term.{Term}
use Rattle.rdf_graph.specs.declared.term.Term.TheVariants.{Iri, Blank, Literal}
use Rattle.rdf_graph.specs.declared.triple.Triple.{Triple}
use Rattle.rdf_meaning.specs.Denotation.{of_node, of_triple}
use Rattle.rdf_meaning.specs.Nodes.{is_iri}
use Rattle.rdf_meaning.specs.Statements.{IsAxiomWith}
use Rattle.rdf_mapping.specs.Drawing.{Statement, linked, linked_back, looped, standing, unsaid}
use Rattle.rdf_mapping.specs.Entries.{note_links}
use Rattle.rdf_mapping.specs.EntryLaws.{entry_subjects, link_subjects, notes_drawn}
use Rattle.rdf_mapping.specs.Forms.{Form, made, Arcs, arc_nodes, blank, link, nodes, term_of, triples}
use Rattle.rdf_mapping.specs.FormLaws.{lie, not_node, own_or_below, own_subject, own_there}
use Rattle.rdf_mapping.specs.Frames.{AreNamedApart, IsAny, IsForeign, IsOfNode, IsOwn, Keeps, KeepsArcs, own_triples}
use Rattle.rdf_mapping.specs.Graphs.{standing_nodes, standing_triples, statement_nodes, statement_triples}
use Rattle.rdf_mapping.specs.GroupFrames.{AreNotesApart, KeepsLinked, KeepsLooped}
use Rattle.rdf_mapping.proofs.GroupFrameLaws.{standing_subjects}
use Rattle.rdf_mapping.proofs.MainLaws.{node_iri}
use Rattle.rdf_mapping.specs.Notes.{Notes, note_nodes, note_triples}
use Rattle.rdf_mapping.specs.Sorts.{SaysAxiom}
use Rattle.rdf_mapping.proofs.StandingLaws.{standing_kept}
use Rattle.rdf_mapping.proofs.StatementFrameLaws.{linked_back_kept, linked_kept, looped_kept}
use Rattle.rdf_axioms.specs.AxiomReading.{IsReadAt, IsWellDrawn, main_of}
use Rattle.rdf_states.specs.Places.{End, Stand, ends_of, stand_node, stands_from, stands_of}

pub iri_foreign : (name : ℕ → List ℕ) (most : ℕ) (x : Term) → is_iri x ≡ true → IsForeign name most x
iri_foreign name most (Iri iri) h n l e = cc
iri_foreign name most (Blank label) h n l e = both_ways false refl h
iri_foreign name most (Literal literal) h n l e = both_ways false refl h

-- where a triple that says an axiom would make its subject what it is, that is no node
foreign_says : (name : ℕ → List ℕ) (most : ℕ) (t : Triple) → SaysAxiom t → IsOfNode t → IsForeign name most t.subject
foreign_says name most t s o = iri_foreign name most t.subject (node_iri t s o)

module _ (name : ℕ → List ℕ) (most : ℕ) (differ : AreNamedApart name most) (g : List Triple) where
  -- An axiom that is a triple.

  abbrev KeptEnd : End → Type 0
  KeptEnd e = Keeps name IsOfNode g (triples name e.form e.number) e.number (e.number + nodes e.form)

  pub record IsKeptMain (s : Statement) (sets : List Notes) (n : ℕ) : Type 0 where
    pub there : (t : Triple) → Contains (main_of name s n) t → Contains g t
    pub ends : (e : End) → Contains (ends_of s n) e → KeptEnd e
    pub read : (k : List Entity) (tag : Tag) (kids : List Tree) → IsReadAt name most g k tag kids s n → (t : Triple) → Contains (main_of name s n) t → IsAxiomWith g k (of_triple t) tag kids

  the_triple : (P : Triple → Type 0) (t u : Triple) → P t → Contains (t ∷ []) u → P u
  the_triple P t u h m = elim (in_cases t [] u m) [ inl e ↦ subst P e h | inr o ↦ absurd (in_none u o) ]

  two_ends : (f q : Form) (n l : ℕ) (e : End) → Keeps name IsOfNode g (triples name f n) n (n + nodes f) → Keeps name IsOfNode g (triples name q l) l (l + nodes q) → Contains (record { form = f; number = n } ∷ record { form = q; number = l } ∷ []) e → KeptEnd e
  two_ends f q n l e h k m =
      let a : End = record { form = f; number = n } in
      let b : End = record { form = q; number = l } in
      elim (in_cases a (b ∷ []) e m) [
        | inl i ↦ subst KeptEnd i h
        | inr i ↦
            elim (in_cases b [] e i) [
              | inl j ↦ subst KeptEnd j k
              | inr o ↦ absurd (in_none e o)
            ]
      ]

  linked_main : (f : Form) (p : List ℕ) (q : Form) (sets : List Notes) (n : ℕ) → n + (nodes f + nodes q) ≤ most → KeepsLinked name g (link (term_of name f n) p (term_of name q (n + nodes f))) f q sets n → IsKeptMain (linked f p q) sets n
  linked_main f p q sets n few k =
      let t = link (term_of name f n) p (term_of name q (n + nodes f)) in
      record {
        there = λ u m. the_triple (Contains g) t u k.there m;
        ends = λ e m. two_ends f q n (n + nodes f) e k.first k.second m;
        read = λ ks tag kids r u m. the_triple (λ v. IsAxiomWith g ks (of_triple v) tag kids) t u (r sets few k) m;
      }

  linked_back_main : (f : Form) (p : List ℕ) (q : Form) (sets : List Notes) (n : ℕ) → n + (nodes f + nodes q) ≤ most → KeepsLinked name g (link (term_of name q (n + nodes f)) p (term_of name f n)) f q sets n → IsKeptMain (linked_back f p q) sets n
  linked_back_main f p q sets n few k =
      let t = link (term_of name q (n + nodes f)) p (term_of name f n) in
      record {
        there = λ u m. the_triple (Contains g) t u k.there m;
        ends = λ e m. two_ends f q n (n + nodes f) e k.first k.second m;
        read = λ ks tag kids r u m. the_triple (λ v. IsAxiomWith g ks (of_triple v) tag kids) t u (r sets few k) m;
      }

  looped_main : (p : List ℕ) (f : Form) (sets : List Notes) (n : ℕ) → n + nodes f ≤ most → KeepsLooped name g (link (term_of name f n) p (term_of name f n)) f sets n → IsKeptMain (looped p f) sets n
  looped_main p f sets n few k =
      let t = link (term_of name f n) p (term_of name f n) in
      let a : End = record { form = f; number = n } in
      record {
        there = λ u m. the_triple (Contains g) t u k.there m;
        ends = λ e m. elim (in_cases a [] e m) [
          | inl i ↦ subst KeptEnd i k.form
          | inr o ↦ absurd (in_none e o)
        ];
        read = λ ks tag kids r u m. the_triple (λ v. IsAxiomWith g ks (of_triple v) tag kids) t u (r sets few k) m;
      }

  -- An axiom that is a triple has it in the graph, which keeps its ends, and it is read back.
  pub kept_main : (s : Statement) (sets : List Notes) (n : ℕ) → n + statement_nodes s sets ≤ most → IsWellDrawn name most s → Keeps name IsAny g (statement_triples name s sets n) n (n + statement_nodes s sets) → IsKeptMain s sets n
  kept_main (linked f p q) sets n few w k =
      let t = link (term_of name f n) p (term_of name q (n + nodes f)) in
      linked_main f p q sets n (omega (arith, few)) (linked_kept name most differ g f p q sets n few w.apart (w.subject n).0 (foreign_says name most t (w.says n).0) k)
  kept_main (linked_back f p q) sets n few w k =
      let t = link (term_of name q (n + nodes f)) p (term_of name f n) in
      linked_back_main f p q sets n (omega (arith, few)) (linked_back_kept name most differ g f p q sets n few w.apart (w.subject n).0 (foreign_says name most t (w.says n).0) k)
  kept_main (looped p f) sets n few w k =
      let t = link (term_of name f n) p (term_of name f n) in
      looped_main p f sets n (omega (arith, few)) (looped_kept name most differ g p f sets n few w.apart (w.subject n).0 (foreign_says name most t (w.says n).0) k)
  kept_main (standing arcs) sets n few w k = record { there = λ t m. absurd (in_none t m); ends = λ e m. absurd (in_none e m); read = λ ks tag kids r t m. absurd (in_none t m) }
  kept_main unsaid sets n few w k = record { there = λ t m. absurd (in_none t m); ends = λ e m. absurd (in_none e m); read = λ ks tag kids r t m. absurd (in_none t m) }

  -- A node that stands for an axiom has exactly its own triples and its annotations, and the graph keeps all that is below it.

  pub record IsKeptStand (e : Stand) : Type 0 where
    pub arcs : KeepsArcs name IsOfNode g e.arcs e.number
    pub whole : (t : Triple) → Contains (triples name (made e.arcs) e.number) t → Contains g t
    pub own : IsOwn IsAny g (stand_node name e) (own_triples name (stand_node name e) e.arcs (suc e.number) ++ note_links (stand_node name e) e.notes)

  own_notes : (x : Term) (ns : Notes) (i n : ℕ) (t : Triple) → x ≡ blank name i → i < n → n + note_nodes ns ≤ most → t.subject ≡ x → Contains (note_triples name x ns n) t → Contains (note_links x ns) t
  own_notes x ns i n t at l few e m =
      let d = notes_drawn name x ns n in
      elim (d.cases t m) [
        | inl a ↦ a
        | inr b ↦
            let up = d.from b.entry b.among in
            let under = d.below b.entry b.among in
            absurd (not_node name most differ i n (n + note_nodes ns) t.subject (e ∙ at) (lie name b.entry.number n (n + note_nodes ns) t.subject up under (entry_subjects name b.entry t b.inside)) l few)
      ]

  head_stand : (arcs : Arcs) (ns : Notes) (sets : List Notes) (n : ℕ) → n + standing_nodes arcs (ns ∷ sets) ≤ most → KeepsArcs name IsOfNode g arcs n → Keeps name IsAny g (standing_triples name arcs (ns ∷ sets) n) n (n + standing_nodes arcs (ns ∷ sets)) → IsKeptStand (record { number = n; arcs = arcs; notes = ns })
  head_stand arcs ns sets n few a k =
      let x = blank name n in
      let mid = n + suc (arc_nodes arcs) in
      let later = n + (suc (arc_nodes arcs) + note_nodes ns) in
      let top = later + standing_nodes arcs sets in
      let high = n + standing_nodes arcs (ns ∷ sets) in
      let own = own_triples name x arcs (suc n) in
      let xs = triples name (made arcs) n in
      let ys = note_triples name x ns mid in
      let zs = standing_triples name arcs sets later in
      record {
        arcs = a;
        whole = λ t m. k.there t (Contains-append_left xs (ys ++ zs) t m);
        own = record {
          there = λ t m.
              elim (Contains-append_cases own (note_links x ns) t m) [
                | inl i ↦ k.there t (Contains-append_left xs (ys ++ zs) t (own_there name x arcs (suc n) t i))
                | inr i ↦ k.there t (Contains-append_right xs (ys ++ zs) t (Contains-append_left ys zs t ((notes_drawn name x ns mid).other t i)))
              ];
          subject = λ t m.
              elim (Contains-append_cases own (note_links x ns) t m) [
                | inl i ↦ own_subject name x arcs (suc n) t i
                | inr i ↦ link_subjects x ns t i
              ];
          back = λ t e c m.
              elim (Contains-append_cases xs (ys ++ zs) t (k.back t (lie name n n high t.subject (omega arith) (omega arith) e) tt m)) [
                | inl i ↦
                    elim (own_or_below name x arcs (suc n) t i) [
                      | inl o ↦ Contains-append_left own (note_links x ns) t o
                      | inr l ↦ absurd (not_node name most differ n (suc n) (suc n + arc_nodes arcs) t.subject e l (omega arith) (omega (arith, few)))
                    ]
                | inr i ↦
                    elim (Contains-append_cases ys zs t i) [
                      | inl j ↦ Contains-append_right own (note_links x ns) t (own_notes x ns n mid t refl (omega arith) (omega (arith, few)) e j)
                      | inr j ↦ absurd (not_node name most differ n later top t.subject e (standing_subjects name arcs sets later t j) (omega arith) (omega (arith, few)))
                    ]
              ];
        };
      }

  from_kept : (arcs : Arcs) (sets : List Notes) (n : ℕ) → n + standing_nodes arcs sets ≤ most → ((ns : Notes) → Contains sets ns → AreNotesApart ns) → Keeps name IsAny g (standing_triples name arcs sets n) n (n + standing_nodes arcs sets) → (e : Stand) → Contains (stands_from arcs sets n) e → IsKeptStand e
  from_kept arcs [] n few h k e m = absurd (in_none e m)
  from_kept arcs (ns ∷ sets) n few h k e m =
      let later = n + (suc (arc_nodes arcs) + note_nodes ns) in
      let first : Stand = record { number = n; arcs = arcs; notes = ns } in
      let s = standing_kept name most differ g arcs ns sets n few (h ns (in_head ns sets)) k in
      elim (in_cases first (stands_from arcs sets later) e m) [
        | inl i ↦ subst IsKeptStand i (head_stand arcs ns sets n few s.node k)
        | inr i ↦ from_kept arcs sets later (omega (arith, few)) (λ us j. h us (in_tail ns sets us j)) s.others e i
      ]

  pub kept_stand : (s : Statement) (sets : List Notes) (n : ℕ) → n + statement_nodes s sets ≤ most → ((ns : Notes) → Contains sets ns → AreNotesApart ns) → Keeps name IsAny g (statement_triples name s sets n) n (n + statement_nodes s sets) → (e : Stand) → Contains (stands_of s sets n) e → IsKeptStand e
  kept_stand (linked f p q) sets n few h k e m = absurd (in_none e m)
  kept_stand (linked_back f p q) sets n few h k e m = absurd (in_none e m)
  kept_stand (looped p f) sets n few h k e m = absurd (in_none e m)
  kept_stand (standing arcs) sets n few h k e m = from_kept arcs sets n few h k e m
  kept_stand unsaid sets n few h k e m = absurd (in_none e m)

  from_read : (k : List Entity) (tag : Tag) (kids : List Tree) (arcs : Arcs) (sets : List Notes) (n : ℕ) → n + standing_nodes arcs sets ≤ most → ((l : ℕ) → IsReadAt name most g k tag kids (standing arcs) l) → (e : Stand) → Contains (stands_from arcs sets n) e → IsKeptStand e → IsAxiomWith g k (of_node (stand_node name e)) tag kids
  from_read k tag kids arcs [] n few r e m kept = absurd (in_none e m)
  from_read k tag kids arcs (ns ∷ sets) n few r e m kept =
      let later = n + (suc (arc_nodes arcs) + note_nodes ns) in
      let first : Stand = record { number = n; arcs = arcs; notes = ns } in
      elim (in_cases first (stands_from arcs sets later) e m) [
        | inl i ↦
            let at : IsKeptStand first = subst IsKeptStand (sym i) kept in
            subst (λ (x : Stand). IsAxiomWith g k (of_node (stand_node name x)) tag kids) i (r n (omega (arith, few)) at.arcs)
        | inr i ↦ from_read k tag kids arcs sets later (omega (arith, few)) r e i kept
      ]

  pub read_stand : (k : List Entity) (tag : Tag) (kids : List Tree) (s : Statement) (sets : List Notes) (n : ℕ) → n + statement_nodes s sets ≤ most → ((l : ℕ) → IsReadAt name most g k tag kids s l) → (e : Stand) → Contains (stands_of s sets n) e → IsKeptStand e → IsAxiomWith g k (of_node (stand_node name e)) tag kids
  read_stand k tag kids (linked f p q) sets n few r e m kept = absurd (in_none e m)
  read_stand k tag kids (linked_back f p q) sets n few r e m kept = absurd (in_none e m)
  read_stand k tag kids (looped p f) sets n few r e m kept = absurd (in_none e m)
  read_stand k tag kids (standing arcs) sets n few r e m kept = from_read k tag kids arcs sets n few r e m kept
  read_stand k tag kids unsaid sets n few r e m kept = absurd (in_none e m)
