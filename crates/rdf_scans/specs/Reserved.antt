-- Whether a triple takes a reserved IRI for what it isn't, as a test (Structural Specification, sections 2.4 and 5).
use Rattle.std.specs.Prelude.{ℕ, Bool, false, not, ◌&&◌, List, Option, Some}
use Rattle.rdf_terms.specs.Vocabulary as iri
use Rattle.owl_kind.specs.declared.kind.Kind.{Kind}
use Rattle.owl_kind.specs.declared.kind.Kind.TheVariants as kind
use Rattle.owl_kind.specs.Kinds.{Entity}
use Rattle.rdf_graph.specs.declared.term.Term.{Term}
use Rattle.rdf_graph.specs.declared.term.Term.TheVariants.{Iri}
use Rattle.rdf_graph.specs.declared.triple.Triple.{Triple}
use Rattle.rdf_meaning.specs.declared.row.Site.{Site}
use Rattle.rdf_meaning.specs.declared.row.Site.TheVariants.{TypedBy, OtherType, OtherLink}
use Rattle.rdf_meaning.specs.Denotation.{site_of}
use Rattle.rdf_meaning.specs.Kinds.{has_kind, may_be_declared}
use Rattle.rdf_faults.specs.Faults.{IsReservedTriple, is_property, kind_declared}
use Rattle.rdf_scans.specs.declared.reading.Reading.{Reading}
use Rattle.rdf_scans.specs.Sorts.{is_main, sort_in}

abbrev pub IsReservedIn : Reading → Triple → Type 0
IsReservedIn reading t = IsReservedTriple reading.graph.now reading.kinds.now reading.header.now t

-- the IRI is reserved, and no property
abbrev pub takes_property : List Entity → List ℕ → Bool
takes_property k name = iri.is_reserved name && not (is_property k name)

-- the term is a reserved IRI, and no class
abbrev pub takes_class : List Entity → Term → Bool
takes_class k (Iri name) = iri.is_reserved name && not (has_kind k kind.Class name)
takes_class k _ = false

-- the term is an IRI that may not be declared as this kind
abbrev pub takes_declared : Option Kind → Term → Bool
takes_declared (Some declared) (Iri name) = not (may_be_declared declared name)
takes_declared _ _ = false

abbrev pub takes_at : Site → List Entity → Triple → Bool
takes_at OtherLink k t = takes_property k t.predicate
takes_at OtherType k t = takes_class k t.object
takes_at (TypedBy w) k t = takes_declared (kind_declared w) t.subject
takes_at _ k t = false

abbrev pub takes_reserved : List Entity → Triple → Bool
takes_reserved k t = takes_at (site_of t) k t

abbrev pub is_reserved : Reading → Triple → Bool
is_reserved reading t = is_main (sort_in reading t) && takes_reserved reading.kinds.now t
