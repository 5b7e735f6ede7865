-- Which terms stand where a tree of a sort stands, by their own kind (Mapping to RDF Graphs, section 3.2).
use Rattle.std.specs.Prelude.{ℕ, Bool, true, false, ◌&&◌, List, Option, None, Some}
use Rattle.std.specs.Option.{is_some}
use Rattle.owl_kind.specs.declared.kind.Kind.{Kind}
use Rattle.owl_kind.specs.declared.kind.Kind.TheVariants as kind
use Rattle.owl_kind.specs.Kinds.{Entity}
use Rattle.owl_tree.specs.declared.row.Sort.{Sort}
use Rattle.owl_tree.specs.declared.row.Sort.TheVariants as sort
use Rattle.rdf_meaning.specs.declared.role.Role.{Role}
use Rattle.rdf_meaning.specs.declared.role.Role.TheVariants as role
use Rattle.rdf_graph.specs.declared.term.Term.{Term}
use Rattle.rdf_meaning.specs.Denotation.{number_leaf}
use Rattle.rdf_meaning.specs.Kinds.{has_kind, may_be_declared}

-- the kind of the IRIs that do
abbrev pub kind_for : Sort → Option Kind
kind_for sort.ClassExpression = Some kind.Class
kind_for sort.Class = Some kind.Class
kind_for sort.DataRange = Some kind.Datatype
kind_for sort.Datatype = Some kind.Datatype
kind_for sort.ObjectPropertyExpression = Some kind.ObjectProperty
kind_for sort.ObjectProperty = Some kind.ObjectProperty
kind_for sort.DataPropertyExpression = Some kind.DataProperty
kind_for sort.AnnotationProperty = Some kind.AnnotationProperty
kind_for _ = None

-- each IRI does
abbrev pub takes_all_iris : Sort → Bool
takes_all_iris sort.Individual = true
takes_all_iris sort.Iri = true
takes_all_iris sort.AnnotationSubject = true
takes_all_iris sort.AnnotationValue = true
takes_all_iris _ = false

-- the role of the blank nodes that may
abbrev pub role_for : Sort → Option Role
role_for sort.ObjectPropertyExpression = Some role.Property
role_for sort.ClassExpression = Some role.Class
role_for sort.DataRange = Some role.Range
role_for sort.FacetPair = Some role.Facet
role_for sort.Individual = Some role.Individual
role_for sort.AnnotationSubject = Some role.Individual
role_for sort.AnnotationValue = Some role.Individual
role_for _ = None

-- the literal does
abbrev pub is_literal_for : Sort → Term → Bool
is_literal_for sort.AnnotationValue x = true
is_literal_for sort.Literal x = true
is_literal_for sort.Number x = is_some (number_leaf x)
is_literal_for _ x = false

-- The IRI is declared as this kind. Of an individual nothing is known but that it may be.
abbrev pub is_declared_as : List Entity → Option Kind → List ℕ → Bool
is_declared_as k None iri = false
is_declared_as k (Some kind.Individual) iri = may_be_declared kind.Individual iri
is_declared_as k (Some other) iri = has_kind k other iri && may_be_declared other iri
