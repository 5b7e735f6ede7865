-- The graph of an ontology is drawn of entries, and of triples that are of none.
use Rattle.std.proofs.Common.{◌≤◌, ◌+◌, ℕ, suc, List, [], ◌∷◌, ◌++◌, arith}
use Rattle.owl_tree.specs.Ontologies.{Ontology}
use Rattle.rdf_graph.specs.declared.term.Term.{Term}
use Rattle.rdf_graph.specs.declared.term.Term.TheVariants.{Iri, Blank, Literal}
use Rattle.rdf_graph.specs.declared.triple.Triple.{Triple}
use Rattle.rdf_mapping.specs.Forms.{Arcs, made, arc_nodes, blank, link, nodes, term_of, triples}
use Rattle.rdf_mapping.specs.Drawing.{Statement, linked, linked_back, looped, standing, unsaid}
use Rattle.rdf_mapping.specs.Notes.{Notes, note_nodes, note_triples}
use Rattle.rdf_mapping.specs.Graphs.{Group, groups_of, group_triples, head_triples, header_nodes, header_term, main_triple, made_triples, notes_from, set_nodes, set_triples, standing_nodes, standing_triples, statement_nodes, statement_triples}
use Rattle.rdf_mapping.specs.Entries.{AreDrawn, Entry, note_entries, note_links, note_roots, set_entries, set_roots}
use Rattle.rdf_mapping.specs.EntryLaws.{drawn_both, drawn_plain, notes_drawn, sets_drawn}
use Rattle.rdf_mapping.specs.GraphEntries.{group_entries, group_others, group_roots, made_entries, made_nodes, made_others, made_roots, standing_entries, standing_others, standing_roots, statement_entries, statement_others, statement_roots}
use Rattle.rdf_mapping.specs.GroupFrames.{group_nodes}

module _ (name : ℕ → List ℕ) where
  drawn_wider : (a b low high : ℕ) (own : List Triple) (roots es : List Entry) (ts : List Triple) → low ≤ a → b ≤ high → AreDrawn name a b own roots es ts → AreDrawn name low high own roots es ts
  drawn_wider a b low high own roots es ts l h d = record {
    from = λ e m. let up = d.from e m in omega (arith, up, l);
    below = λ e m. let up = d.below e m in omega (arith, up, h);
    one = d.one;
    cases = d.cases;
    other = d.other;
    there = d.there;
    root = d.root;
    parent = d.parent;
    inner = d.inner;
  }

  -- triples in front of which there are no entries
  drawn_front : (low high : ℕ) (xs own : List Triple) (roots es : List Entry) (ts : List Triple) → low ≤ high → AreDrawn name low high own roots es ts → AreDrawn name low high (xs ++ own) roots es (xs ++ ts)
  drawn_front low high xs own roots es ts l d = drawn_both name low low high xs own [] roots [] es xs ts (omega arith) l (drawn_plain name low xs) d

  main_drawn : (low high : ℕ) (s : Term) (p : List ℕ) (o : Term) (ends : List Triple) (roots es : List Entry) (ts : List Triple) → low ≤ high → AreDrawn name low high [] roots es ts → AreDrawn name low high (ends ++ main_triple name s p o []) roots es (ends ++ main_triple name s p o ts)
  main_drawn low high (Iri s) p o ends roots es ts l d = drawn_front low high ends (link (Iri s) p o ∷ []) roots es (link (Iri s) p o ∷ ts) l (drawn_front low high (link (Iri s) p o ∷ []) [] roots es ts l d)
  main_drawn low high (Blank s) p o ends roots es ts l d = drawn_front low high ends (link (Blank s) p o ∷ []) roots es (link (Blank s) p o ∷ ts) l (drawn_front low high (link (Blank s) p o ∷ []) [] roots es ts l d)
  main_drawn low high (Literal s) p o ends roots es ts l d = drawn_front low high ends [] roots es ts l d

  link_drawn : (n k : ℕ) (s : Term) (p : List ℕ) (o : Term) (ends : List Triple) (sets : List Notes) → AreDrawn name n (n + (k + set_nodes sets)) (ends ++ main_triple name s p o []) (set_roots (link s p o) sets (n + k)) (set_entries name (link s p o) sets (n + k)) (ends ++ main_triple name s p o (set_triples name (link s p o) sets (n + k)))
  link_drawn n k s p o ends sets =
      let t = link s p o in
      main_drawn n (n + (k + set_nodes sets)) s p o ends (set_roots t sets (n + k)) (set_entries name t sets (n + k)) (set_triples name t sets (n + k)) (omega arith)
      (drawn_wider (n + k) (n + k + set_nodes sets) n (n + (k + set_nodes sets)) [] (set_roots t sets (n + k)) (set_entries name t sets (n + k)) (set_triples name t sets (n + k)) (omega arith) (omega arith) (sets_drawn name t sets (n + k)))

  pub standing_drawn : (arcs : Arcs) (sets : List Notes) (n : ℕ) → AreDrawn name n (n + standing_nodes arcs sets) (standing_others name arcs sets n) (standing_roots name arcs sets n) (standing_entries name arcs sets n) (standing_triples name arcs sets n)
  standing_drawn arcs [] n = drawn_wider n n n (n + 0) [] [] [] [] (omega arith) (omega arith) (drawn_plain name n [])
  standing_drawn arcs (ns ∷ sets) n =
      let x = blank name n in
      let a = n + suc (arc_nodes arcs) in
      let b = n + (suc (arc_nodes arcs) + note_nodes ns) in
      let c = b + standing_nodes arcs sets in
      let own = note_links x ns ++ standing_others name arcs sets b in
      let roots = note_roots x ns a ++ standing_roots name arcs sets b in
      let es = note_entries name x ns a ++ standing_entries name arcs sets b in
      let ts = note_triples name x ns a ++ standing_triples name arcs sets b in
      let node = triples name (made arcs) n in
      let notes : AreDrawn name a b (note_links x ns) (note_roots x ns a) (note_entries name x ns a) (note_triples name x ns a) = drawn_wider a (a + note_nodes ns) a b (note_links x ns) (note_roots x ns a) (note_entries name x ns a) (note_triples name x ns a) (omega arith) (omega arith) (notes_drawn name x ns a) in
      drawn_wider a c n (n + standing_nodes arcs (ns ∷ sets)) (node ++ own) roots es (node ++ ts) (omega arith) (omega arith)
      (drawn_front a c node own roots es ts (omega arith)
      (drawn_both name a b c (note_links x ns) (standing_others name arcs sets b) (note_roots x ns a) (standing_roots name arcs sets b) (note_entries name x ns a) (standing_entries name arcs sets b) (note_triples name x ns a) (standing_triples name arcs sets b) (omega arith) (omega arith) notes (standing_drawn arcs sets b)))

  pub statement_drawn : (s : Statement) (sets : List Notes) (n : ℕ) → AreDrawn name n (n + statement_nodes s sets) (statement_others name s sets n) (statement_roots name s sets n) (statement_entries name s sets n) (statement_triples name s sets n)
  statement_drawn (linked f p g) sets n = link_drawn n (nodes f + nodes g) (term_of name f n) p (term_of name g (n + nodes f)) (triples name f n ++ triples name g (n + nodes f)) sets
  statement_drawn (linked_back f p g) sets n = link_drawn n (nodes f + nodes g) (term_of name g (n + nodes f)) p (term_of name f n) (triples name f n ++ triples name g (n + nodes f)) sets
  statement_drawn (looped p f) sets n = link_drawn n (nodes f) (term_of name f n) p (term_of name f n) (triples name f n) sets
  statement_drawn (standing arcs) sets n = standing_drawn arcs sets n
  statement_drawn unsaid sets n = drawn_wider n n n (n + 0) [] [] [] [] (omega arith) (omega arith) (drawn_plain name n [])

  pub groups_drawn : (gs : List Group) (n : ℕ) → AreDrawn name n (n + group_nodes gs) (group_others name gs n) (group_roots name gs n) (group_entries name gs n) (group_triples name gs n)
  groups_drawn [] n = drawn_wider n n n (n + 0) [] [] [] [] (omega arith) (omega arith) (drawn_plain name n [])
  groups_drawn (g ∷ gs) n =
      let s = g.statement in
      let sets = g.sets in
      let mid = n + statement_nodes s sets in
      let high = mid + group_nodes gs in
      let own = statement_others name s sets n ++ group_others name gs mid in
      let roots = statement_roots name s sets n ++ group_roots name gs mid in
      let es = statement_entries name s sets n ++ group_entries name gs mid in
      let ts = statement_triples name s sets n ++ group_triples name gs mid in
      drawn_wider n high n (n + group_nodes (g ∷ gs)) own roots es ts (omega arith) (omega arith)
      (drawn_both name n mid high (statement_others name s sets n) (group_others name gs mid) (statement_roots name s sets n) (group_roots name gs mid) (statement_entries name s sets n) (group_entries name gs mid) (statement_triples name s sets n) (group_triples name gs mid) (omega arith) (omega arith) (statement_drawn s sets n) (groups_drawn gs mid))

  pub made_drawn : (o : Ontology) → AreDrawn name (header_nodes o.head.name) (made_nodes o) (made_others name o) (made_roots name o) (made_entries name o) (made_triples name o)
  made_drawn o =
      let x = header_term name o.head.name in
      let ns = notes_from o.annotations in
      let gs = groups_of o.axioms in
      let a = header_nodes o.head.name in
      let b = a + note_nodes ns in
      let c = b + group_nodes gs in
      let own = note_links x ns ++ group_others name gs b in
      let roots = note_roots x ns a ++ group_roots name gs b in
      let es = note_entries name x ns a ++ group_entries name gs b in
      let ts = note_triples name x ns a ++ group_triples name gs b in
      drawn_wider a c a (made_nodes o) (head_triples x o.head ++ own) roots es (head_triples x o.head ++ ts) (omega arith) (omega arith)
      (drawn_front a c (head_triples x o.head) own roots es ts (omega arith)
      (drawn_both name a b c (note_links x ns) (group_others name gs b) (note_roots x ns a) (group_roots name gs b) (note_entries name x ns a) (group_entries name gs b) (note_triples name x ns a) (group_triples name gs b) (omega arith) (omega arith) (notes_drawn name x ns a) (groups_drawn gs b)))
