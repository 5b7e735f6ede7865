-- The nodes that reify in the graph of an ontology, and the triples that are of no such node.
use Rattle.std.specs.Prelude.{ℕ, suc, ◌+◌, List, [], ◌∷◌, ◌++◌}
use Rattle.owl_tree.specs.Ontologies.{Ontology}
use Rattle.rdf_graph.specs.declared.triple.Triple.{Triple}
use Rattle.rdf_mapping.specs.Forms.{Arcs, made, arc_nodes, blank, link, nodes, term_of, triples}
use Rattle.rdf_mapping.specs.Drawing.{Statement, linked, linked_back, looped, standing, unsaid}
use Rattle.rdf_mapping.specs.Notes.{Notes, note_nodes}
use Rattle.rdf_mapping.specs.Graphs.{Group, groups_of, head_triples, header_nodes, header_term, main_triple, notes_from, statement_nodes}
use Rattle.rdf_mapping.specs.GroupFrames.{group_nodes}
use Rattle.rdf_mapping.specs.Entries.{Entry, note_entries, note_links, note_roots, set_entries, set_roots}

-- how many nodes have no label of the ontology
abbrev pub made_nodes : Ontology → ℕ
made_nodes o = header_nodes o.head.name + (note_nodes (notes_from o.annotations) + group_nodes (groups_of o.axioms))

-- the group stands among these, of which the nodes have the numbers from one on, and its nodes have those from the other on
pub data IsAt (g : Group) (m : ℕ) : List Group → ℕ → Type 0 where
  first : (gs : List Group) → IsAt g m (g ∷ gs) m
  next : (h : Group) (gs : List Group) (n : ℕ) → IsAt g m gs (n + statement_nodes h.statement h.sets) → IsAt g m (h ∷ gs) n

module _ (name : ℕ → List ℕ) where
  abbrev pub standing_others : Arcs → List Notes → ℕ → List Triple
  standing_others arcs [] n = []
  standing_others arcs (ns ∷ sets) n =
      triples name (made arcs) n ++ (note_links (blank name n) ns ++
      standing_others arcs sets (n + (suc (arc_nodes arcs) + note_nodes ns)))

  abbrev pub standing_roots : Arcs → List Notes → ℕ → List Entry
  standing_roots arcs [] n = []
  standing_roots arcs (ns ∷ sets) n =
      note_roots (blank name n) ns (n + suc (arc_nodes arcs)) ++
      standing_roots arcs sets (n + (suc (arc_nodes arcs) + note_nodes ns))

  abbrev pub standing_entries : Arcs → List Notes → ℕ → List Entry
  standing_entries arcs [] n = []
  standing_entries arcs (ns ∷ sets) n =
      note_entries name (blank name n) ns (n + suc (arc_nodes arcs)) ++
      standing_entries arcs sets (n + (suc (arc_nodes arcs) + note_nodes ns))

  -- the triple with what is drawn of its ends
  abbrev pub statement_others : Statement → List Notes → ℕ → List Triple
  statement_others (linked f p g) sets n =
      (triples name f n ++ triples name g (n + nodes f)) ++ main_triple name (term_of name f n) p (term_of name g (n + nodes f)) []
  statement_others (linked_back f p g) sets n =
      (triples name f n ++ triples name g (n + nodes f)) ++ main_triple name (term_of name g (n + nodes f)) p (term_of name f n) []
  statement_others (looped p f) sets n = triples name f n ++ main_triple name (term_of name f n) p (term_of name f n) []
  statement_others (standing arcs) sets n = standing_others arcs sets n
  statement_others unsaid sets n = []

  abbrev pub statement_roots : Statement → List Notes → ℕ → List Entry
  statement_roots (linked f p g) sets n =
      set_roots (link (term_of name f n) p (term_of name g (n + nodes f))) sets (n + (nodes f + nodes g))
  statement_roots (linked_back f p g) sets n =
      set_roots (link (term_of name g (n + nodes f)) p (term_of name f n)) sets (n + (nodes f + nodes g))
  statement_roots (looped p f) sets n = set_roots (link (term_of name f n) p (term_of name f n)) sets (n + nodes f)
  statement_roots (standing arcs) sets n = standing_roots arcs sets n
  statement_roots unsaid sets n = []

  abbrev pub statement_entries : Statement → List Notes → ℕ → List Entry
  statement_entries (linked f p g) sets n =
      set_entries name (link (term_of name f n) p (term_of name g (n + nodes f))) sets (n + (nodes f + nodes g))
  statement_entries (linked_back f p g) sets n =
      set_entries name (link (term_of name g (n + nodes f)) p (term_of name f n)) sets (n + (nodes f + nodes g))
  statement_entries (looped p f) sets n = set_entries name (link (term_of name f n) p (term_of name f n)) sets (n + nodes f)
  statement_entries (standing arcs) sets n = standing_entries arcs sets n
  statement_entries unsaid sets n = []

  abbrev pub group_others : List Group → ℕ → List Triple
  group_others [] n = []
  group_others (g ∷ gs) n = statement_others g.statement g.sets n ++ group_others gs (n + statement_nodes g.statement g.sets)

  abbrev pub group_roots : List Group → ℕ → List Entry
  group_roots [] n = []
  group_roots (g ∷ gs) n = statement_roots g.statement g.sets n ++ group_roots gs (n + statement_nodes g.statement g.sets)

  abbrev pub group_entries : List Group → ℕ → List Entry
  group_entries [] n = []
  group_entries (g ∷ gs) n = statement_entries g.statement g.sets n ++ group_entries gs (n + statement_nodes g.statement g.sets)

  abbrev pub made_others : Ontology → List Triple
  made_others o =
      head_triples (header_term name o.head.name) o.head ++
      (note_links (header_term name o.head.name) (notes_from o.annotations) ++
      group_others (groups_of o.axioms) (header_nodes o.head.name + note_nodes (notes_from o.annotations)))

  abbrev pub made_roots : Ontology → List Entry
  made_roots o =
      note_roots (header_term name o.head.name) (notes_from o.annotations) (header_nodes o.head.name) ++
      group_roots (groups_of o.axioms) (header_nodes o.head.name + note_nodes (notes_from o.annotations))

  abbrev pub made_entries : Ontology → List Entry
  made_entries o =
      note_entries name (header_term name o.head.name) (notes_from o.annotations) (header_nodes o.head.name) ++
      group_entries (groups_of o.axioms) (header_nodes o.head.name + note_nodes (notes_from o.annotations))
