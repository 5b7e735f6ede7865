-- What the terms of a triple have to be for it to be an axiom (Mapping to RDF Graphs, section 3.2.5).
use Rattle.std.specs.Prelude.{◌≡◌, IsTrue, List}
use Rattle.std.specs.List.{AllByRecursion}
use Rattle.rdf_graph.specs.declared.triple.Triple.{Triple}
use Rattle.rdf_meaning.specs.declared.row.Part.{Part}
use Rattle.rdf_meaning.specs.Denotation.{of_triple, site_of}
use Rattle.rdf_meaning.specs.Rows.{Row}
use Rattle.rdf_faults.specs.Asked.{IsMetAt, IsTypedAxiom, IsTypedNote}
use Rattle.rdf_faults.specs.Faults.{IsUntypedStatement}
use Rattle.rdf_scans.specs.declared.reading.Reading.{Reading}
use Rattle.rdf_scans.specs.Sorts.{annotates, is_main, sort_in}

-- the term at the part's place is what the part wants
abbrev pub IsMetIn : Reading → Triple → Part → Type 0
IsMetIn reading t p = IsMetAt reading.graph.now reading.kinds.now (of_triple t) p

abbrev pub IsMetBy : Reading → Triple → List Part → Type 0
IsMetBy reading t parts = AllByRecursion (IsMetIn reading t) parts

-- the triple is an axiom by the row
abbrev pub IsAxiomBy : Reading → Triple → Row → Type 0
IsAxiomBy reading t row = (row.site ≡ site_of t) × IsMetBy reading t row.parts

abbrev pub IsUntypedIn : Reading → Triple → Type 0
IsUntypedIn reading t = IsUntypedStatement reading.graph.now reading.kinds.now reading.header.now t

-- the triple would be an axiom, and is none
abbrev pub IsNoAxiom : Reading → Triple → Type 0
IsNoAxiom reading t = IsTrue (is_main (sort_in reading t)) × (IsTypedAxiom reading.graph.now reading.kinds.now t → ⊥)

-- the triple would be an annotation, and is none
abbrev pub IsNoNote : Reading → Triple → Type 0
IsNoNote reading t = IsTrue (annotates reading t) × (IsTypedNote reading.graph.now reading.kinds.now t → ⊥)
