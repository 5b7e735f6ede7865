-- Where axioms stand in the graph of an ontology, and what each of them has there.
use Rattle.std.specs.Prelude.{ℕ, suc, ◌+◌, List, [], ◌∷◌, ◌++◌, Contains}
use Rattle.owl_tree.specs.Ontologies.{Ontology}
use Rattle.owl_tree.specs.Trees.{Tree}
use Rattle.rdf_graph.specs.declared.term.Term.{Term}
use Rattle.rdf_graph.specs.declared.triple.Triple.{Triple}
use Rattle.rdf_mapping.specs.Drawing.{Statement, linked, linked_back, looped, standing, unsaid, statement_of}
use Rattle.rdf_mapping.specs.Entries.{Entry, note_links, note_roots, set_roots}
use Rattle.rdf_mapping.specs.Forms.{Form, made, Arcs, arc_nodes, blank, nodes, triples}
use Rattle.rdf_mapping.specs.FormSorts.{AllForms}
use Rattle.rdf_mapping.specs.Graphs.{bare_axioms, head_triples, header_nodes, header_term, notes_from, sets_of, statement_nodes}
use Rattle.rdf_mapping.specs.Notes.{Notes, note_nodes}
use Rattle.rdf_axioms.specs.AxiomReading.{main_of}

-- the forms that a statement is drawn of
abbrev pub AllEnds : (Form → Type 0) → Statement → Type 0
AllEnds P (linked f p q) = P f × P q
AllEnds P (linked_back f p q) = P f × P q
AllEnds P (looped p f) = P f
AllEnds P (standing arcs) = AllForms P arcs
AllEnds P unsaid = Unit {0}

-- A form at which the triple of a statement begins or ends, and the number from which its nodes are.
pub record End : Type 0 where
  pub form : Form
  pub number : ℕ

abbrev pub end_at : Form → ℕ → End
end_at f n = record { form = f; number = n }

abbrev pub ends_of : Statement → ℕ → List End
ends_of (linked f p q) n = end_at f n ∷ end_at q (n + nodes f) ∷ []
ends_of (linked_back f p q) n = end_at f n ∷ end_at q (n + nodes f) ∷ []
ends_of (looped p f) n = end_at f n ∷ []
ends_of (standing arcs) n = []
ends_of unsaid n = []

-- the number from which the nodes that reify the triple are
abbrev pub sets_at : Statement → ℕ → ℕ
sets_at (linked f p q) n = n + (nodes f + nodes q)
sets_at (linked_back f p q) n = n + (nodes f + nodes q)
sets_at (looped p f) n = n + nodes f
sets_at (standing arcs) n = n
sets_at unsaid n = n

-- The node of the number stands for an axiom with this set of annotations.
pub record Stand : Type 0 where
  pub number : ℕ
  pub arcs : Arcs
  pub notes : Notes

abbrev pub stands_from : Arcs → List Notes → ℕ → List Stand
stands_from arcs [] n = []
stands_from arcs (ns ∷ sets) n =
    record { number = n; arcs = arcs; notes = ns } ∷ stands_from arcs sets (n + (suc (arc_nodes arcs) + note_nodes ns))

abbrev pub stands_of : Statement → List Notes → ℕ → List Stand
stands_of (linked f p q) sets n = []
stands_of (linked_back f p q) sets n = []
stands_of (looped p f) sets n = []
stands_of (standing arcs) sets n = stands_from arcs sets n
stands_of unsaid sets n = []

-- the number behind those of the node and of what its arcs lead to
abbrev pub notes_at : Stand → ℕ
notes_at e = e.number + suc (arc_nodes e.arcs)

module _ (name : ℕ → List ℕ) where
  abbrev pub stand_node : Stand → Term
  stand_node e = blank name e.number

  -- A triple of a statement that is of no node that reifies: of one of its ends, its own, of a node that stands for it, or an annotation
  -- of such a node.
  pub data IsOther (s : Statement) (sets : List Notes) (n : ℕ) (t : Triple) : Type 0 where
    at_end : (e : End) → Contains (ends_of s n) e → Contains (triples name e.form e.number) t → IsOther s sets n t
    is_main : Contains (main_of name s n) t → IsOther s sets n t
    at_node : (e : Stand) → Contains (stands_of s sets n) e → Contains (triples name (made e.arcs) e.number) t → IsOther s sets n t
    at_note : (e : Stand) → Contains (stands_of s sets n) e → Contains (note_links (stand_node e) e.notes) t → IsOther s sets n t

  -- A node that reifies the triple of a statement, or an annotation of a node that stands for it.
  pub data IsRootOf (s : Statement) (sets : List Notes) (n : ℕ) (f : Entry) : Type 0 where
    of_main : (t : Triple) → Contains (main_of name s n) t → Contains (set_roots t sets (sets_at s n)) f → IsRootOf s sets n f
    of_stand : (e : Stand) → Contains (stands_of s sets n) e → Contains (note_roots (stand_node e) e.notes (notes_at e)) f → IsRootOf s sets n f

-- The axiom without annotations stands among these, of which the nodes have the numbers from one on, and its own have those from the other on.
pub data IsPlaced (axioms : List Tree) (b : Tree) (m : ℕ) : List Tree → ℕ → Type 0 where
  first : (bs : List Tree) → IsPlaced axioms b m (b ∷ bs) m
  next : (c : Tree) (bs : List Tree) (n : ℕ) → IsPlaced axioms b m bs (n + statement_nodes (statement_of c) (sets_of c axioms)) →
      IsPlaced axioms b m (c ∷ bs) n

-- the number from which the nodes of axioms are
abbrev pub first_number : Ontology → ℕ
first_number o = header_nodes o.head.name + note_nodes (notes_from o.annotations)

abbrev pub StandsAt : Ontology → Tree → ℕ → Type 0
StandsAt o b m = IsPlaced o.axioms b m (bare_axioms o.axioms) (first_number o)

-- the triples that axioms are, from these on
abbrev pub mains_from : (ℕ → List ℕ) → List Tree → List Tree → ℕ → List Triple
mains_from name axioms [] n = []
mains_from name axioms (b ∷ bs) n =
    main_of name (statement_of b) n ++ mains_from name axioms bs (n + statement_nodes (statement_of b) (sets_of b axioms))

abbrev pub mains_of : (ℕ → List ℕ) → Ontology → List Triple
mains_of name o = mains_from name o.axioms (bare_axioms o.axioms) (first_number o)

-- What a triple of the graph of an ontology is made as, if it is of no node that reifies.
pub data IsMade (name : ℕ → List ℕ) (o : Ontology) (t : Triple) : Type 0 where
  of_head : Contains (head_triples (header_term name o.head.name) o.head) t → IsMade name o t
  of_header_note : Contains (note_links (header_term name o.head.name) (notes_from o.annotations)) t → IsMade name o t
  of_axiom : (b : Tree) (m : ℕ) → StandsAt o b m → IsOther name (statement_of b) (sets_of b o.axioms) m t → IsMade name o t
