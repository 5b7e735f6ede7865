-- How the ontology of a graph is called, what it imports, and what the graph declares (Mapping to RDF Graphs, sections 3.1 and 3.2.1).
use Rattle.std.specs.Prelude.{◌≡◌, ◌≤◌, List, [], ◌∷◌, Option, None, Some, length}
use Rattle.std.specs.List.{filter_map}
use Rattle.owl_characters.specs.Order.{text_cmp}
use Rattle.owl_doc.specs.declared.head.Head as held
use Rattle.owl_doc.specs.Heads.{StandsBeside, head_of}
use Rattle.owl_kind.specs.declared.kind.Kind.{Kind}
use Rattle.owl_kind.specs.Kinds.{Entity}
use Rattle.owl_list.specs.Ascending.{IsAscending}
use Rattle.rdf_faults.specs.Faults.{IsBadHeader, kind_declared}
use Rattle.rdf_graph.specs.declared.term.Term.{Term}
use Rattle.rdf_graph.specs.declared.term.Term.TheVariants.{Iri}
use Rattle.rdf_graph.specs.declared.triple.Triple.{Triple}
use Rattle.rdf_meaning.specs.declared.row.Site.{Site}
use Rattle.rdf_meaning.specs.declared.row.Site.TheVariants.{TypedBy}
use Rattle.rdf_meaning.specs.Denotation.{site_of}
use Rattle.rdf_meaning.specs.Statements.{IsHeadOf, headers}
use Rattle.rdf_scans.specs.declared.fault.OutlineFault.{OutlineFault}
use Rattle.rdf_scans.specs.declared.fault.OutlineFault.TheVariants.{NoHeader, TwoHeaders, BadHeader, Memory}

-- as what a triple of this site declares its subject
abbrev pub kind_at : Site → Option Kind
kind_at (TypedBy word) = kind_declared word
kind_at _ = None

-- the IRI, as an entity of the kind
abbrev pub entity_of : Term → Option Kind → Option Entity
entity_of (Iri iri) (Some kind) = Some (record { kind = kind; iri = iri })
entity_of _ _ = None

abbrev pub declaration : Triple → Option Entity
declaration t = entity_of t.subject (kind_at (site_of t))

-- what the triples of a graph declare
abbrev pub declarations : List Triple → List Entity
declarations g = filter_map declaration g

-- The node gives the head, whose version stands beside an IRI, and whose imports ascend.
pub record IsHeadAt (g : List Triple) (x : Term) (head : held.Head) : Type 0 where
  pub is_head : IsHeadOf g x (head_of head)
  pub version : StandsBeside head.version head.iri
  pub imports : IsAscending text_cmp head.imports.items

-- the head that the one header of the graph gives
pub record IsOutline (g : List Triple) (head : held.Head) : Type 0 where
  pub header : Term
  pub one_header : headers g ≡ header ∷ []
  pub head_at : IsHeadAt g header head

abbrev pub IsOutlineFault : List Triple → OutlineFault → Type 0
IsOutlineFault g NoHeader = headers g ≡ []
IsOutlineFault g TwoHeaders = 2 ≤ length (headers g)
IsOutlineFault g (BadHeader node) = IsBadHeader g node
IsOutlineFault g Memory = Unit {0}
