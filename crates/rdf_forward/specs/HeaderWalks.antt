-- What is written of an ontology: before its axioms, and in all.
use Rattle.std.specs.Prelude.{◌+◌, ◌++◌}
use Rattle.owl_tree.specs.Ontologies.{Ontology}
use Rattle.rdf_graph.specs.declared.term.Term.{Term}
use Rattle.rdf_forward.specs.declared.writer.Writer.{Writer}
use Rattle.rdf_mapping.specs.Notes.{note_nodes, note_triples}
use Rattle.rdf_mapping.specs.Graphs.{head_triples, header_nodes, header_term, made_triples, notes_from}
use Rattle.rdf_mapping.specs.GraphEntries.{made_nodes}
use Rattle.rdf_forward.specs.Walks.{Writes, names}

-- the triples of the ontology that the term is
abbrev pub WritesBelow : Writer → Writer → Term → Ontology → Type 0
WritesBelow old new x o =
    Writes old new (note_nodes (notes_from o.annotations))
    (head_triples x o.head ++ note_triples (names old) x (notes_from o.annotations) old.next)

-- the header and its annotations, where no node has a number yet
abbrev pub WritesHeader : Writer → Writer → Ontology → Type 0
WritesHeader old new o =
    Writes old new (header_nodes o.head.name + note_nodes (notes_from o.annotations))
    (head_triples (header_term (names old) o.head.name) o.head ++
    note_triples (names old) (header_term (names old) o.head.name) (notes_from o.annotations) (header_nodes o.head.name))

-- all of it, where no node has a number yet
abbrev pub WritesOntology : Writer → Writer → Ontology → Type 0
WritesOntology old new o = Writes old new (made_nodes o) (made_triples (names old) o)
