-- The graph of an ontology in normal form (Mapping to RDF Graphs, section 2).
use Rattle.std.specs.Prelude.{ℕ, suc, ◌+◌, List, [], ◌∷◌, ◌++◌, map, Option, None, Some}
use Rattle.std.specs.List.{filter, flat_map}
use Rattle.std.specs.Ordering.{eq_by_cmp}
use Rattle.owl_list.specs.Ascending.{ascending}
use Rattle.owl_tree.specs.declared.atom.Atom.{Atom}
use Rattle.owl_tree.specs.declared.atom.Atom.TheVariants as atom
use Rattle.owl_tree.specs.declared.tag.Tag.TheVariants as tag
use Rattle.owl_tree.specs.Ontologies.{Head, Ontology, OntologyName}
use Rattle.owl_tree.specs.Order.{tree_cmp}
use Rattle.owl_tree.specs.Trees.{Tree, Kids, leaf, node, no_kids, kid}
use Rattle.rdf_graph.specs.Graphs.{set_of}
use Rattle.rdf_graph.specs.declared.term.Term.{Term}
use Rattle.rdf_graph.specs.declared.term.Term.TheVariants.{Iri, Blank, Literal}
use Rattle.rdf_graph.specs.declared.triple.Triple.{Triple}
use Rattle.rdf_meaning.specs.declared.word.Word.TheVariants as word
use Rattle.rdf_meaning.specs.Words.{word_iri}
use Rattle.rdf_meaning.specs.Nodes.{type_iri}
use Rattle.rdf_mapping.specs.Forms.{Arcs, made, arc_nodes, blank, link, nodes, term_of, triples}
use Rattle.rdf_mapping.specs.Drawing.{Statement, linked, linked_back, looped, standing, unsaid, statement_of}
use Rattle.rdf_mapping.specs.Notes.{Notes, note_nodes, note_triples, notes_in, notes_of, reified, reified_nodes}
use Rattle.blank_labels.specs.FreshLabels.{fresh_name}

-- Axioms that differ in their annotations alone.

abbrev pub bare : Tree → Tree
bare (leaf t a) = leaf t a
bare (node t no_kids) = node t no_kids
bare (node t (kid ns ks)) = node t (kid (node tag.Notes no_kids) ks)

abbrev pub axiom_notes : Tree → Notes
axiom_notes (leaf t a) = notes_of (leaf t a)
axiom_notes (node t no_kids) = notes_in no_kids
axiom_notes (node t (kid ns ks)) = notes_of ns

-- the annotations of each axiom that is this one without them, in order of the axioms
abbrev pub sets_of : Tree → List Tree → List Notes
sets_of b axioms = map axiom_notes (filter (λ a. eq_by_cmp tree_cmp (bare a) b) axioms)

-- the axioms without annotations, each once, in canonical order
abbrev pub bare_axioms : List Tree → List Tree
bare_axioms axioms = ascending tree_cmp (map bare axioms)

pub record Group : Type 0 where
  pub statement : Statement
  pub sets : List Notes

abbrev pub group_of : List Tree → Tree → Group
group_of axioms b = record { statement = statement_of b; sets = sets_of b axioms }

abbrev pub groups_of : List Tree → List Group
groups_of axioms = map (group_of axioms) (bare_axioms axioms)

-- What each of them is in the graph, with nodes from a number on.

abbrev pub set_nodes : List Notes → ℕ
set_nodes [] = 0
set_nodes (ns ∷ sets) = reified_nodes ns + set_nodes sets

abbrev pub standing_nodes : Arcs → List Notes → ℕ
standing_nodes arcs [] = 0
standing_nodes arcs (ns ∷ sets) = suc (arc_nodes arcs) + note_nodes ns + standing_nodes arcs sets

abbrev pub statement_nodes : Statement → List Notes → ℕ
statement_nodes (linked f p g) sets = nodes f + nodes g + set_nodes sets
statement_nodes (linked_back f p g) sets = nodes f + nodes g + set_nodes sets
statement_nodes (looped p f) sets = nodes f + set_nodes sets
statement_nodes (standing arcs) sets = standing_nodes arcs sets
statement_nodes unsaid sets = 0

module _ (name : ℕ → List ℕ) where
  -- the triple with each set of its annotations
  abbrev pub set_triples : Triple → List Notes → ℕ → List Triple
  set_triples t [] n = []
  set_triples t (ns ∷ sets) n = reified name word.Axiom t ns n ++ set_triples t sets (n + reified_nodes ns)

  -- the node of an axiom, once with each set
  abbrev pub standing_triples : Arcs → List Notes → ℕ → List Triple
  standing_triples arcs [] n = []
  standing_triples arcs (ns ∷ sets) n =
      triples name (made arcs) n ++ (note_triples name (blank name n) ns (n + suc (arc_nodes arcs)) ++
      standing_triples arcs sets (n + (suc (arc_nodes arcs) + note_nodes ns)))

  -- a triple with its annotations; a literal is no subject
  abbrev pub main_triple : Term → List ℕ → Term → List Triple → List Triple
  main_triple (Iri s) p o sets = link (Iri s) p o ∷ sets
  main_triple (Blank s) p o sets = link (Blank s) p o ∷ sets
  main_triple (Literal s) p o sets = sets

  -- what is drawn of its ends comes before it
  abbrev pub linked_triples : Term → List ℕ → Term → List Triple → List Notes → ℕ → List Triple
  linked_triples s p o ends sets n = ends ++ main_triple s p o (set_triples (link s p o) sets n)

  abbrev pub statement_triples : Statement → List Notes → ℕ → List Triple
  statement_triples (linked f p g) sets n =
      linked_triples (term_of name f n) p (term_of name g (n + nodes f)) (triples name f n ++ triples name g (n + nodes f)) sets
      (n + (nodes f + nodes g))
  statement_triples (linked_back f p g) sets n =
      linked_triples (term_of name g (n + nodes f)) p (term_of name f n) (triples name f n ++ triples name g (n + nodes f)) sets
      (n + (nodes f + nodes g))
  statement_triples (looped p f) sets n =
      linked_triples (term_of name f n) p (term_of name f n) (triples name f n) sets (n + nodes f)
  statement_triples (standing arcs) sets n = standing_triples arcs sets n
  statement_triples unsaid sets n = []

  abbrev pub group_triples : List Group → ℕ → List Triple
  group_triples [] n = []
  group_triples (g ∷ gs) n =
      statement_triples g.statement g.sets n ++ group_triples gs (n + statement_nodes g.statement g.sets)

  -- The node of an ontology without an IRI has the first number.
  abbrev pub header_term : Option OntologyName → Term
  header_term None = blank name 0
  header_term (Some n) = Iri n.iri

abbrev pub header_nodes : Option OntologyName → ℕ
header_nodes None = 1
header_nodes (Some n) = 0

abbrev pub version_of : Option OntologyName → Option (List ℕ)
version_of None = None
version_of (Some n) = n.version

abbrev pub version_triples : Term → Option (List ℕ) → List Triple
version_triples x None = []
version_triples x (Some iri) = link x (word_iri word.VersionIri) (Iri iri) ∷ []

abbrev pub import_triples : Term → List (List ℕ) → List Triple
import_triples x iris = map (λ i. link x (word_iri word.Imports) (Iri i)) iris

-- the ontology, its version and what it imports (section 2.2)
abbrev pub head_triples : Term → Head → List Triple
head_triples x h =
    link x type_iri (Iri (word_iri word.Ontology)) ∷ (version_triples x (version_of h.name) ++ import_triples x h.imports)

-- annotations one behind the other
abbrev pub notes_from : List Tree → Notes
notes_from ts = notes_in (kids ts)
  where
    kids : List Tree → Kids
    kids [] = no_kids
    kids (t ∷ us) = kid t (kids us)

-- all triples, with nodes by their numbers: those of the header, of its annotations, and of the axioms
abbrev pub made_triples : (ℕ → List ℕ) → Ontology → List Triple
made_triples name o =
    head_triples (header_term name o.head.name) o.head ++
    (note_triples name (header_term name o.head.name) (notes_from o.annotations) (header_nodes o.head.name) ++
    group_triples name (groups_of o.axioms) (header_nodes o.head.name + note_nodes (notes_from o.annotations)))

-- the labels of an ontology's anonymous individuals
abbrev atom_labels : Atom → List (List ℕ)
atom_labels (atom.Iri iri) = []
atom_labels (atom.Label label) = label ∷ []
atom_labels (atom.Literal literal) = []
atom_labels (atom.Number n) = []

abbrev mutual
  pub labels_in : Tree → List (List ℕ)
  labels_in (leaf t a) = atom_labels a
  labels_in (node t ks) = all_labels_in ks

  pub all_labels_in : Kids → List (List ℕ)
  all_labels_in no_kids = []
  all_labels_in (kid t ks) = labels_in t ++ all_labels_in ks

abbrev pub labels_of : Ontology → List (List ℕ)
labels_of o = flat_map labels_in (o.annotations ++ o.axioms)

-- The graph of an ontology in canonical form that is its own normal form.
unfoldable pub graph_of : Ontology → List Triple
graph_of o = set_of (made_triples (fresh_name (labels_of o)) o)
