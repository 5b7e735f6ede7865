-- Each number of a node has a node in the graph of an ontology.
use Rattle.std.proofs.Common.{◌≡◌, ◌≤◌, ◌<◌, ◌+◌, ◌⊎◌, ℕ, suc, List, [], ◌∷◌, ◌++◌, inl, inr, refl, sym, ap, ◌∙◌, arith}
use Rattle.std.specs.Prelude.{Contains, Option, None, Some}
use Rattle.std.specs.List.{AllByRecursion}
use Rattle.std.proofs.lemmas.Bool.{cases_lt}
use Rattle.std.proofs.lemmas.List.Elements.{Contains-append_left, Contains-append_right}
use Rattle.std.proofs.Math.Nat.{eq-or-lt_of_le}
use Rattle.owl_kind.specs.Kinds.{Entity}
use Rattle.owl_list.proofs.AscendingLaws.{in_head, in_none, in_tail}
use Rattle.owl_tree.specs.declared.tag.Tag.{Tag}
use Rattle.owl_tree.specs.Ontologies.{Head, Ontology, OntologyName}
use Rattle.owl_tree.specs.Trees.{Tree, tag_of}
use Rattle.rdf_graph.specs.declared.term.Term.{Term}
use Rattle.rdf_graph.specs.declared.term.Term.TheVariants.{Iri, Blank, Literal}
use Rattle.rdf_graph.specs.declared.triple.Triple.{Triple}
use Rattle.rdf_meaning.specs.declared.role.Role.TheVariants as role
use Rattle.rdf_meaning.specs.declared.word.Word.{Word}
use Rattle.rdf_meaning.specs.declared.word.Word.TheVariants as word
use Rattle.rdf_meaning.specs.Nodes.{nil_iri, role_of, roles_of, type_iri}
use Rattle.rdf_meaning.specs.Words.{word_iri}
use Rattle.rdf_mapping.specs.Drawing.{Statement, linked, linked_back, looped, standing, unsaid, statement_of}
use Rattle.rdf_mapping.specs.Forms.{Form, plain, made, twice, Arcs, no_arcs, arc, arc_nodes, arc_triples, blank, first_iri, link, nodes, rest_iri, term_of, triples}
use Rattle.rdf_mapping.specs.Frames.{twice_behind}
use Rattle.rdf_mapping.specs.GraphEntries.{made_nodes}
use Rattle.rdf_mapping.specs.Graphs.{Group, group_triples, groups_of, head_triples, header_nodes, header_term, linked_triples, made_triples, main_triple, notes_from, set_nodes, set_triples, standing_nodes, standing_triples, statement_nodes, statement_triples}
use Rattle.rdf_mapping.specs.GroupFrames.{IsSubject, group_nodes}
use Rattle.rdf_mapping.specs.Notes.{Notes, no_notes, note, note_nodes, note_triples, reified, reified_nodes, reifying}
use Rattle.rdf_axioms.specs.AxiomReading.{IsReadAt, IsSayableAxiom, IsWellDrawn, main_of}
use Rattle.rdf_axioms.proofs.ReadBackLaws.{axiom_read_back}
use Rattle.rdf_states.proofs.GraphOf.{AreWellDrawn}
use Rattle.rdf_states.proofs.GraphStatesLaws.{group_drawn}
use Rattle.rdf_states.proofs.ReadLaws.{main_role}
use Rattle.rdf_states.specs.Renamed.{IsLabelIn}

-- the node is in more triples too
pub in_more : (ts us : List Triple) (label : List ℕ) → ((t : Triple) → Contains ts t → Contains us t) → IsLabelIn ts label → IsLabelIn us label
in_more ts us label within h = record { triple = h.triple; inside = within h.triple h.inside; stands = h.stands }

in_front : (ts us : List Triple) (label : List ℕ) → IsLabelIn ts label → IsLabelIn (ts ++ us) label
in_front ts us label = in_more ts (ts ++ us) label (Contains-append_left ts us)

behind : (ts us : List Triple) (label : List ℕ) → IsLabelIn us label → IsLabelIn (ts ++ us) label
behind ts us label = in_more us (ts ++ us) label (Contains-append_right ts us)

later : (t : Triple) (ts : List Triple) (label : List ℕ) → IsLabelIn ts label → IsLabelIn (t ∷ ts) label
later t ts label = in_more ts (t ∷ ts) label (in_tail t ts)

first_subject : (t : Triple) (ts : List Triple) (label : List ℕ) → t.subject ≡ Blank label → IsLabelIn (t ∷ ts) label
first_subject t ts label e = record { triple = t; inside = in_head t ts; stands = inl e }

first_object : (t : Triple) (ts : List Triple) (label : List ℕ) → t.object ≡ Blank label → IsLabelIn (t ∷ ts) label
first_object t ts label e = record { triple = t; inside = in_head t ts; stands = inr e }

-- a node with arcs
abbrev HasArc : Arcs → Type 0
HasArc no_arcs = ⊥
HasArc (arc p f more) = Unit {0}

abbrev pub HasOwnArc : Statement → Type 0
HasOwnArc (standing arcs) = HasArc arcs
HasOwnArc _ = Unit {0}

module _ (name : ℕ → List ℕ) where
  -- the node of the number: that at which a form begins, or one below it
  abbrev Stands : ℕ → List Triple → Type 0
  Stands i ts = IsLabelIn ts (name i)

  same_node : (n i : ℕ) → n ≡ i → blank name n ≡ blank name i
  same_node n i e = ap (blank name) e

  mutual
    form_stands : (f : Form) (n i : ℕ) → n ≤ i → i < n + nodes f → (term_of name f n ≡ blank name i) ⊎ Stands i (triples name f n)
    form_stands (plain x) n i from below = absurd (omega (arith, from, below))
    form_stands (made arcs) n i from below =
        elim (eq-or-lt_of_le from) [
          | inl e ↦ inl (same_node n i e)
          | inr more ↦ inr (arcs_stand (blank name n) arcs (suc n) i (omega (arith, more)) (omega (arith, below)))
        ]
    form_stands (twice f) n i from below =
        let x = blank name n in
        let y = blank name (suc n + nodes f) in
        let o = term_of name f (suc n) in
        let ts = triples name f (suc n) in
        elim (eq-or-lt_of_le from) [
          | inl e ↦ inl (same_node n i e)
          | inr more ↦
              elim (cases_lt i (suc n + nodes f)) [
                | inl less ↦
                    elim (form_stands f (suc n) i (omega (arith, more)) less) [
                      | inl e ↦ inr (first_object (link x first_iri o) (ts ++ twice_behind name f n) (name i) e)
                      | inr h ↦ inr (later (link x first_iri o) (ts ++ twice_behind name f n) (name i) (in_front ts (twice_behind name f n) (name i) h))
                    ]
                | inr last ↦
                    inr (later (link x first_iri o) (ts ++ twice_behind name f n) (name i) (behind ts (twice_behind name f n) (name i)
                    (first_object (link x rest_iri y) (link y first_iri o ∷ link y rest_iri (Iri nil_iri) ∷ []) (name i)
                    (same_node (suc n + nodes f) i (omega (arith, last, below))))))
              ]
        ]

    arcs_stand : (x : Term) (arcs : Arcs) (n i : ℕ) → n ≤ i → i < n + arc_nodes arcs → Stands i (arc_triples name x arcs n)
    arcs_stand x no_arcs n i from below = absurd (omega (arith, from, below))
    arcs_stand x (arc p f more) n i from below =
        let first = link x p (term_of name f n) in
        let ts = triples name f n in
        let us = arc_triples name x more (n + nodes f) in
        elim (cases_lt i (n + nodes f)) [
          | inl less ↦
              elim (form_stands f n i from less) [
                | inl e ↦ first_object first (ts ++ us) (name i) e
                | inr h ↦ later first (ts ++ us) (name i) (in_front ts us (name i) h)
              ]
          | inr last ↦ later first (ts ++ us) (name i) (behind ts us (name i) (arcs_stand x more (n + nodes f) i last (omega (arith, below))))
        ]

  -- Nodes that reify.

  reified_stands : (w : Word) (t : Triple) (ns : Notes) (n i : ℕ) → n ≤ i → i < n + reified_nodes ns → (suc n ≤ i → i < suc n + note_nodes ns → Stands i (note_triples name (blank name n) ns (suc n))) → Stands i (reified name w t ns n)
  reified_stands w t no_notes n i from below h = absurd (omega (arith, from, below))
  reified_stands w t (note p v inside more) n i from below h =
      let x = blank name n in
      let own = reifying w x t in
      let ts = note_triples name x (note p v inside more) (suc n) in
      elim (eq-or-lt_of_le from) [
        | inl e ↦ in_front own ts (name i) (first_subject (link x type_iri (Iri (word_iri w))) _ (name i) (same_node n i e))
        | inr last ↦ behind own ts (name i) (h (omega (arith, last)) (omega (arith, below)))
      ]

  notes_stand : (x : Term) (ns : Notes) (n i : ℕ) → n ≤ i → i < n + note_nodes ns → Stands i (note_triples name x ns n)
  notes_stand x no_notes n i from below = absurd (omega (arith, from, below))
  notes_stand x (note p v inside more) n i from below =
      let t = link x p v in
      let own = reified name word.Annotation t inside n in
      let us = note_triples name x more (n + reified_nodes inside) in
      later t (own ++ us) (name i)
      (elim (cases_lt i (n + reified_nodes inside)) [
        | inl less ↦ in_front own us (name i) (reified_stands word.Annotation t inside n i from less (λ a b. notes_stand (blank name n) inside (suc n) i a b))
        | inr last ↦ behind own us (name i) (notes_stand x more (n + reified_nodes inside) i last (omega (arith, below)))
      ])

  sets_stand : (t : Triple) (sets : List Notes) (n i : ℕ) → n ≤ i → i < n + set_nodes sets → Stands i (set_triples name t sets n)
  sets_stand t [] n i from below = absurd (omega (arith, from, below))
  sets_stand t (ns ∷ sets) n i from below =
      let own = reified name word.Axiom t ns n in
      let us = set_triples name t sets (n + reified_nodes ns) in
      elim (cases_lt i (n + reified_nodes ns)) [
        | inl less ↦ in_front own us (name i) (reified_stands word.Axiom t ns n i from less (λ a b. notes_stand (blank name n) ns (suc n) i a b))
        | inr last ↦ behind own us (name i) (sets_stand t sets (n + reified_nodes ns) i last (omega (arith, below)))
      ]

  -- Statements.

  top_stands : (arcs : Arcs) (n i : ℕ) → HasArc arcs → blank name n ≡ blank name i → Stands i (triples name (made arcs) n)
  top_stands no_arcs n i h e = absurd h
  top_stands (arc p f more) n i h e = first_subject (link (blank name n) p (term_of name f (suc n))) _ (name i) e

  standing_stands : (arcs : Arcs) (sets : List Notes) (n i : ℕ) → HasArc arcs → n ≤ i → i < n + standing_nodes arcs sets → Stands i (standing_triples name arcs sets n)
  standing_stands arcs [] n i has from below = absurd (omega (arith, from, below))
  standing_stands arcs (ns ∷ sets) n i has from below =
      let x = blank name n in
      let a = n + suc (arc_nodes arcs) in
      let b = n + (suc (arc_nodes arcs) + note_nodes ns) in
      let ts = triples name (made arcs) n in
      let us = note_triples name x ns a in
      let vs = standing_triples name arcs sets b in
      elim (cases_lt i a) [
        | inl less ↦
            in_front ts (us ++ vs) (name i) (elim (form_stands (made arcs) n i from less) [
              | inl e ↦ top_stands arcs n i has e
              | inr h ↦ h
            ])
        | inr more ↦
            behind ts (us ++ vs) (name i) (elim (cases_lt i b) [
              | inl less ↦ in_front us vs (name i) (notes_stand x ns a i more (omega (arith, less)))
              | inr last ↦ behind us vs (name i) (standing_stands arcs sets b i has last (omega (arith, below)))
            ])
      ]

  main_stands : (s : Term) (p : List ℕ) (o : Term) (ts : List Triple) (i : ℕ) → IsSubject s → (s ≡ blank name i) ⊎ (o ≡ blank name i) → Stands i (main_triple name s p o ts)
  main_stands (Iri s) p o ts i is at = record { triple = link (Iri s) p o; inside = in_head (link (Iri s) p o) ts; stands = at }
  main_stands (Blank s) p o ts i is at = record { triple = link (Blank s) p o; inside = in_head (link (Blank s) p o) ts; stands = at }
  main_stands (Literal s) p o ts i is at = absurd (is s refl)

  behind_main : (s : Term) (p : List ℕ) (o : Term) (ts : List Triple) (i : ℕ) → Stands i ts → Stands i (main_triple name s p o ts)
  behind_main (Iri s) p o ts i h = later (link (Iri s) p o) ts (name i) h
  behind_main (Blank s) p o ts i h = later (link (Blank s) p o) ts (name i) h
  behind_main (Literal s) p o ts i h = h

  linked_stands : (s : Term) (p : List ℕ) (o : Term) (ends : List Triple) (sets : List Notes) (n i : ℕ) → IsSubject s → ((n ≤ i) ⊎ (((s ≡ blank name i) ⊎ (o ≡ blank name i)) ⊎ Stands i ends)) → i < n + set_nodes sets → Stands i (linked_triples name s p o ends sets n)
  linked_stands s p o ends sets n i is at below =
      let ts = set_triples name (link s p o) sets n in
      let main = main_triple name s p o ts in
      elim at [
        | inl from ↦ behind ends main (name i) (behind_main s p o ts i (sets_stand (link s p o) sets n i from below))
        | inr h ↦ elim h [ inl top ↦ behind ends main (name i) (main_stands s p o ts i is top) | inr end ↦ in_front ends main (name i) end ]
      ]

  -- where the number is, among those of two ends
  two_stand : (f q : Form) (n i : ℕ) → n ≤ i → (n + (nodes f + nodes q) ≤ i) ⊎ (((term_of name f n ≡ blank name i) ⊎ (term_of name q (n + nodes f) ≡ blank name i)) ⊎ Stands i (triples name f n ++ triples name q (n + nodes f)))
  two_stand f q n i from =
      let ts = triples name f n in
      let us = triples name q (n + nodes f) in
      elim (cases_lt i (n + nodes f)) [
        | inl less ↦ elim (form_stands f n i from less) [ inl e ↦ inr (inl (inl e)) | inr h ↦ inr (inr (in_front ts us (name i) h)) ]
        | inr more ↦
            elim (cases_lt i (n + nodes f + nodes q)) [
              | inl less ↦ elim (form_stands q (n + nodes f) i more less) [ inl e ↦ inr (inl (inr e)) | inr h ↦ inr (inr (behind ts us (name i) h)) ]
              | inr last ↦ inl (omega (arith, last))
            ]
      ]

  turned : {A B C D : Type 0} → A ⊎ ((B ⊎ C) ⊎ D) → A ⊎ ((C ⊎ B) ⊎ D)
  turned (inl a) = inl a
  turned (inr (inl (inl b))) = inr (inl (inr b))
  turned (inr (inl (inr c))) = inr (inl (inl c))
  turned (inr (inr d)) = inr (inr d)

  statement_stands : (s : Statement) (sets : List Notes) (n i : ℕ) → AllByRecursion (λ t. IsSubject t.subject) (main_of name s n) → HasOwnArc s → n ≤ i → i < n + statement_nodes s sets → Stands i (statement_triples name s sets n)
  statement_stands (linked f p q) sets n i is has from below =
      linked_stands (term_of name f n) p (term_of name q (n + nodes f)) (triples name f n ++ triples name q (n + nodes f)) sets (n + (nodes f + nodes q)) i is.0
      (two_stand f q n i from) (omega (arith, below))
  statement_stands (linked_back f p q) sets n i is has from below =
      linked_stands (term_of name q (n + nodes f)) p (term_of name f n) (triples name f n ++ triples name q (n + nodes f)) sets (n + (nodes f + nodes q)) i is.0
      (turned (two_stand f q n i from)) (omega (arith, below))
  statement_stands (looped p f) sets n i is has from below =
      linked_stands (term_of name f n) p (term_of name f n) (triples name f n) sets (n + nodes f) i is.0
      (elim (cases_lt i (n + nodes f)) [
        | inl less ↦ elim (form_stands f n i from less) [ inl e ↦ inr (inl (inl e)) | inr h ↦ inr (inr h) ]
        | inr last ↦ inl last
      ]) (omega (arith, below))
  statement_stands (standing arcs) sets n i is has from below = standing_stands arcs sets n i has from below
  statement_stands unsaid sets n i is has from below = absurd (omega (arith, from, below))

  groups_stand : (most : ℕ) (gs : List Group) (n i : ℕ) → ((q : Group) → Contains gs q → IsWellDrawn name most q.statement × HasOwnArc q.statement) → n ≤ i → i < n + group_nodes gs → Stands i (group_triples name gs n)
  groups_stand most [] n i each from below = absurd (omega (arith, from, below))
  groups_stand most (q ∷ gs) n i each from below =
      let mid = n + statement_nodes q.statement q.sets in
      let own = each q (in_head q gs) in
      let ts = statement_triples name q.statement q.sets n in
      let us = group_triples name gs mid in
      elim (cases_lt i mid) [
        | inl less ↦ in_front ts us (name i) (statement_stands q.statement q.sets n i (own.0.subject n) own.1 from less)
        | inr last ↦ behind ts us (name i) (groups_stand most gs mid i (λ r m. each r (in_tail q gs r m)) last (omega (arith, below)))
      ]

  header_stands : (h : Head) (i : ℕ) → i < header_nodes h.name → Stands i (head_triples (header_term name h.name) h)
  header_stands h i below = by h.name i below
    where
      by : (n : Option OntologyName) (i : ℕ) → i < header_nodes n → Stands i (head_triples (header_term name n) h)
      by None i below = first_subject (link (blank name 0) type_iri (Iri (word_iri word.Ontology))) _ (name i) (same_node 0 i (omega (arith, below)))
      by (Some n) i below = absurd (omega (arith, below))

  pub made_stand : (o : Ontology) → AreWellDrawn name o → ((q : Group) → Contains (groups_of o.axioms) q → HasOwnArc q.statement) → (i : ℕ) → i < made_nodes o → Stands i (made_triples name o)
  made_stand o drawn arcs i below =
      let x = header_term name o.head.name in
      let ns = notes_from o.annotations in
      let a = header_nodes o.head.name in
      let b = a + note_nodes ns in
      let ts = head_triples x o.head in
      let us = note_triples name x ns a in
      let vs = group_triples name (groups_of o.axioms) b in
      elim (cases_lt i a) [
        | inl less ↦ in_front ts (us ++ vs) (name i) (header_stands o.head i less)
        | inr more ↦
            behind ts (us ++ vs) (name i) (elim (cases_lt i b) [
              | inl less ↦ in_front us vs (name i) (notes_stand x ns a i more less)
              | inr last ↦
                  behind us vs (name i)
                  (groups_stand (made_nodes o) (groups_of o.axioms) b i (λ q m. (group_drawn name o drawn q m, arcs q m)) last (omega (arith, below)))
            ])
      ]

-- A node that stands for an axiom has arcs: without any, a graph of no triples would say the axiom.

no_role : (label : List ℕ) → role_of [] (Blank label) ≡ role.Individual
unfolding roles_of
no_role label = refl

main_is_no_individual : role.Individual ≡ role.Main → ⊥
main_is_no_individual e = cc

read_has_arc : (k : List Entity) (t : Tag) (kids : List Tree) (s : Statement) → IsReadAt (λ n. []) 1 [] k t kids s 0 → HasOwnArc s
read_has_arc k t kids (standing no_arcs) h =
    let said =
    h (omega arith) (record {
      own = record { there = λ u m. absurd (in_none u m); subject = λ u m. absurd (in_none u m); back = λ u e c m. absurd (in_none u m) };
      each = tt;
    }) in
    main_is_no_individual (sym (no_role []) ∙ main_role [] k (Blank []) t kids said)
read_has_arc k t kids (standing (arc p f more)) h = tt
read_has_arc k t kids (linked f p q) h = tt
read_has_arc k t kids (linked_back f p q) h = tt
read_has_arc k t kids (looped p f) h = tt
read_has_arc k t kids unsaid h = tt

pub axiom_has_arc : (k : List Entity) (a : Tree) → IsSayableAxiom k a → HasOwnArc (statement_of a)
axiom_has_arc k a said =
    let read = axiom_read_back (λ n. []) 1 (λ m n a b e. omega (arith, a, b)) [] k tt a said (λ label m. no_role label) in
    read_has_arc k (tag_of a) read.kids (statement_of a) (read.read 0)
