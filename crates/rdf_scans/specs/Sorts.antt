-- What the triples of a graph are for (Mapping to RDF Graphs, section 3).
use Rattle.std.specs.Prelude.{◌≡◌, Bool, true, false, not, ◌&&◌, ◌||◌, cond, List, [], ◌∷◌}
use Rattle.owl_kind.specs.declared.kind.Kind.TheVariants as kind
use Rattle.owl_kind.specs.Kinds.{Entity}
use Rattle.rdf_graph.specs.declared.term.Term.{Term}
use Rattle.rdf_graph.specs.declared.triple.Triple.{Triple}
use Rattle.rdf_meaning.specs.declared.role.Role.{Role}
use Rattle.rdf_meaning.specs.declared.role.Role.TheVariants as role
use Rattle.rdf_meaning.specs.declared.row.Site.{Site}
use Rattle.rdf_meaning.specs.declared.row.Site.TheVariants.{OtherLink}
use Rattle.rdf_meaning.specs.Kinds.{has_kind}
use Rattle.rdf_meaning.specs.Nodes.{carries_some, is_role, is_same, is_structural, role_of}
use Rattle.rdf_meaning.specs.Statements.{header_words, headers, is_annotation_triple, is_axiom_predicate, is_header_triple}
use Rattle.rdf_asked.specs.Listed.{AreKnownLists}
use Rattle.rdf_roles.specs.Refusals.{AreNodesFormed}
use Rattle.rdf_roles.specs.Tables.{IsTableOf}
use Rattle.rdf_scans.specs.declared.reading.Reading.{Reading}
use Rattle.rdf_scans.specs.declared.sorts.TripleSort.{TripleSort}
use Rattle.rdf_scans.specs.declared.sorts.TripleSort.TheVariants.{Structural, Header, Annotation, Main}

-- the header is the graph's only one, the roles and the lists are those of its nodes, and each of these has its form
pub record IsReading (reading : Reading) : Type 0 where
  pub one_header : headers reading.graph.now ≡ reading.header.now ∷ []
  pub table : IsTableOf reading.graph.now reading.roles.now
  pub formed : AreNodesFormed reading.graph.now
  pub lists : AreKnownLists reading.graph.now reading.kinds.now reading.lists.now

abbrev pub sort_of : List Triple → List Entity → Term → Triple → TripleSort
sort_of g k header t =
    cond (is_structural g t) Structural (cond (is_header_triple header t) Header (cond (is_annotation_triple g k header t) Annotation Main))

abbrev pub sort_in : Reading → Triple → TripleSort
sort_in reading t = sort_of reading.graph.now reading.kinds.now reading.header.now t

abbrev pub annotates : Reading → Triple → Bool
annotates reading t = is_annotation_triple reading.graph.now reading.kinds.now reading.header.now t

abbrev pub is_main : TripleSort → Bool
is_main Main = true
is_main _ = false

-- an annotation of the ontology
abbrev pub is_header_note : List Entity → Term → Triple → Bool
is_header_note k header t =
    is_same t.subject header && not (carries_some header_words t) && has_kind k kind.AnnotationProperty t.predicate
    && not (is_axiom_predicate t.predicate)

-- a node of the role has annotations
abbrev pub may_be_noted : Role → Bool
may_be_noted r = is_role role.Main r || is_role role.Note r

-- an annotation of a reification, or of a node that stands for an axiom
abbrev pub is_node_note : List Triple → Triple → Bool
is_node_note g t = may_be_noted (role_of g t.subject) && not (is_structural g t)

-- a row of an axiom names the predicates of triples with this site
abbrev pub is_axiom_site : Site → Bool
is_axiom_site OtherLink = false
is_axiom_site _ = true
