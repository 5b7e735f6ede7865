-- An axiom that has a node of its own: what a graph keeps of it, and that the node is the axiom.
use Rattle.std.proofs.Common.{◌≡◌, ◌≤◌, ◌+◌, ℕ, suc, true, List, ◌∷◌, ◌++◌, inl, inr, refl, sym, subst, arith}
use Rattle.std.specs.Prelude.{Contains, map, not, ◌||◌}
use Rattle.std.specs.List.{AllByRecursion, list_all}
use Rattle.std.proofs.lemmas.Bool.{both_ways, not-true, or_cases}
use Rattle.std.proofs.lemmas.List.Elements.{Contains-append_cases, Contains-append_left, Contains-append_right}
use Rattle.owl_kind.specs.Kinds.{Entity}
use Rattle.owl_list.specs.Ascending.{AreApart}
use Rattle.owl_list.proofs.AscendingLaws.{in_cases, in_none}
use Rattle.owl_tree.specs.Trees.{Tree}
use Rattle.rdf_graph.specs.declared.term.Term.{Term}
use Rattle.rdf_graph.specs.declared.triple.Triple.{Triple}
use Rattle.rdf_meaning.specs.Denotation.{of_node}
use Rattle.rdf_meaning.proofs.ListLaws.{passes}
use Rattle.rdf_meaning.specs.Rows.{Row, axiom_rows}
use Rattle.rdf_meaning.specs.Statements.{IsAxiomWith}
use Rattle.rdf_meaning.specs.Words.{is_type, word_number}
use Rattle.rdf_mapping.specs.Forms.{made, Arcs, arc_nodes, blank, link, nodes, triples}
use Rattle.rdf_mapping.specs.Drawing.{arcs_of, fit, kid_of, placed, tags_of}
use Rattle.rdf_mapping.specs.FormLaws.{apart, keeps_part, lie, made_kept, subjects, wider}
use Rattle.rdf_mapping.specs.Frames.{AreNamedApart, IsAny, IsOfNode, Keeps, KeepsArcs}
use Rattle.rdf_mapping.specs.Graphs.{standing_nodes, standing_triples}
use Rattle.rdf_mapping.specs.GroupFrames.{AreNotesApart, KeepsStanding}
use Rattle.rdf_mapping.proofs.GroupFrameLaws.{links_or_below, note_subjects, standing_subjects}
use Rattle.rdf_mapping.specs.Notes.{Notes, no_notes, note, note_nodes, note_triples}
use Rattle.rdf_mapping.proofs.RowDrawingLaws.{parts_drawn}
use Rattle.rdf_mapping.specs.Spelling.{is_at_node}
use Rattle.rdf_mapping.proofs.SpellingLaws.{axiom_row_written_well, spelled_fits, spelled_holds}
use Rattle.rdf_mapping.specs.Written.{IsDrawnWell, draws_at, given, written}
use Rattle.rdf_mapping.specs.Entries.{note_links}

-- an annotation of the term itself is no part of a node
plain_links : (x : Term) (ns : Notes) → AreNotesApart ns → (t : Triple) → Contains (note_links x ns) t → IsOfNode t → ⊥
plain_links x no_notes h t m c = absurd (in_none t m)
plain_links x (note p v inside more) h t m c =
    elim (in_cases (link x p v) (note_links x more) t m) [ inl e ↦ h.0 x (subst IsOfNode (sym e) c) | inr k ↦ plain_links x more h.1.1 t k c ]

module _ (name : ℕ → List ℕ) (most : ℕ) (differ : AreNamedApart name most) (g : List Triple) where
  pub standing_kept : (arcs : Arcs) (ns : Notes) (sets : List Notes) (n : ℕ) → n + standing_nodes arcs (ns ∷ sets) ≤ most → AreNotesApart ns → Keeps name IsAny g (standing_triples name arcs (ns ∷ sets) n) n (n + standing_nodes arcs (ns ∷ sets)) → KeepsStanding name g arcs ns sets n
  standing_kept arcs ns sets n few h k =
      let high = n + standing_nodes arcs (ns ∷ sets) in
      let mid = n + suc (arc_nodes arcs) in
      let next = n + (suc (arc_nodes arcs) + note_nodes ns) in
      let top = next + standing_nodes arcs sets in
      let xs = triples name (made arcs) n in
      let ys = note_triples name (blank name n) ns mid in
      let zs = standing_triples name arcs sets next in
      let formed : Keeps name IsOfNode g xs n (n + nodes (made arcs)) =
      record {
        there = λ t m. k.there t (Contains-append_left xs (ys ++ zs) t m);
        back = λ t i c m.
            elim (Contains-append_cases xs (ys ++ zs) t (k.back t (wider name n mid n high t.subject (omega arith) (omega arith) i) tt m)) [
              | inl a ↦ a
              | inr b ↦
                  elim (Contains-append_cases ys zs t b) [
                    | inl a ↦
                        elim (links_or_below name (blank name n) ns mid t a) [
                          | inl o ↦ absurd (plain_links (blank name n) ns h t o c)
                          | inr l ↦ absurd (apart name most differ n mid mid (mid + note_nodes ns) t.subject i l (omega arith) (omega (arith, few)))
                        ]
                    | inr d ↦ absurd (apart name most differ n mid next top t.subject i (standing_subjects name arcs sets next t d) (omega arith) (omega (arith, few)))
                  ]
            ];
      } in
      record {
        node = made_kept name most differ IsOfNode g arcs n (omega (arith, few)) formed;
        notes = λ t m. k.there t (Contains-append_right xs (ys ++ zs) t (Contains-append_left ys zs t m));
        others =
            keeps_part name IsAny g (xs ++ (ys ++ zs)) zs n high next top k (omega arith) (omega arith)
            (λ t m. Contains-append_right xs (ys ++ zs) t (Contains-append_right ys zs t m))
            (λ t m i. elim (Contains-append_cases xs (ys ++ zs) t m) [
              | inl a ↦ absurd (apart name most differ n (n + nodes (made arcs)) next top t.subject (subjects name (made arcs) n t a) i (omega arith) (omega (arith, few)))
              | inr b ↦
                  elim (Contains-append_cases ys zs t b) [
                    | inl a ↦
                        elim (note_subjects name (blank name n) ns mid t a) [
                          | inl e ↦ absurd (apart name most differ n (suc n) next top t.subject (lie name n n (suc n) t.subject (omega arith) (omega arith) e) i (omega arith) (omega (arith, few)))
                          | inr l ↦ absurd (apart name most differ mid (mid + note_nodes ns) next top t.subject l i (omega arith) (omega (arith, few)))
                        ]
                    | inr d ↦ d
                  ]
            ]);
      }

-- The node is the axiom.

axioms_draw : list_all (λ r. not (is_at_node r.site) || list_all (λ p. draws_at p.place p.want) r.parts) axiom_rows ≡ true
unfolding axiom_rows is_type word_number
axioms_draw = refl

axiom_draws : (r : Row) → Contains axiom_rows r → is_at_node r.site ≡ true → list_all (λ p. draws_at p.place p.want) r.parts ≡ true
axiom_draws r m n =
    elim (or_cases (not (is_at_node r.site)) (list_all (λ p. draws_at p.place p.want) r.parts) (passes (λ q. not (is_at_node q.site) || list_all (λ p. draws_at p.place p.want) q.parts) axiom_rows r axioms_draw m)) [
      | inl a ↦ absurd (both_ways (is_at_node r.site) (not-true (is_at_node r.site) a) n)
      | inr b ↦ b
    ]

pub standing_drawn : (name : ℕ → List ℕ) (most : ℕ) → AreNamedApart name most → (g : List Triple) (k : List Entity) → AreApart g → (r : Row) → Contains axiom_rows r → is_at_node r.site ≡ true → (ts : List Tree) → fit r.parts (tags_of (map kid_of ts)) ≡ true → AllByRecursion (IsDrawnWell name most g k) ts → (n : ℕ) → n + suc (arc_nodes (arcs_of (placed r.parts (map kid_of ts)))) ≤ most → KeepsArcs name IsOfNode g (arcs_of (placed r.parts (map kid_of ts))) n → IsAxiomWith g k (of_node (blank name n)) r.tag (given r.parts (map written ts))
standing_drawn name most differ g k apart r among at ts fitting all n few kept =
    let drawn = parts_drawn name most differ g k apart (blank name n) r.parts (axiom_draws r among at) ts (suc n) fitting all (omega (arith, few)) kept.each in
    let well = axiom_row_written_well r among at in
    record {
      row = r;
      among = among;
      tag = refl;
      fits = spelled_fits g (name n) _ r apart kept.own drawn.0 well;
      parts = spelled_holds g k (name n) _ r (given r.parts (map written ts)) apart kept.own drawn.0 drawn.1 well;
    }
