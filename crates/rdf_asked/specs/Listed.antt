-- What is known of the lists of a graph.
use Rattle.std.specs.Prelude.{◌≡◌, ◌↔◌, ◌&&◌, ℕ, Bool, not, IfSome, IsTrue, List, Option, None, Some, slice_get}
use Rattle.owl_kind.specs.Kinds.{Entity}
use Rattle.owl_tree.specs.declared.row.Sort.{Sort}
use Rattle.owl_tree.specs.declared.row.Sort.TheVariants as sort
use Rattle.rdf_graph.specs.declared.term.Term.{Term}
use Rattle.rdf_graph.specs.declared.term.Term.TheVariants.{Blank}
use Rattle.rdf_graph.specs.declared.triple.Triple.{Triple}
use Rattle.rdf_meaning.specs.declared.role.Role.TheVariants as role
use Rattle.rdf_meaning.specs.declared.word.Word.TheVariants as word
use Rattle.rdf_meaning.specs.Nodes.{carries, is_role, role_of}
use Rattle.rdf_faults.specs.Asked.{IsListOf}
use Rattle.rdf_roles.specs.Refusals.{AreNodesFormed}
use Rattle.rdf_roles.specs.Tables.{IsTableOf, blank_nodes}
use Rattle.rdf_asked.specs.declared.elements.Element.{Element}
use Rattle.rdf_asked.specs.declared.elements.Element.TheVariants.{OfSort, Key}
use Rattle.rdf_asked.specs.declared.listed.Listed.{Listed}
use Rattle.rdf_asked.specs.declared.source.Source.{Source}
use Rattle.rdf_asked.specs.Elements.{is_element}

-- what is told of terms for trees of the sort
abbrev pub told_of : Listed → Sort → Option Bool
told_of l sort.ClassExpression = Some l.classes
told_of l sort.DataRange = Some l.ranges
told_of l sort.ObjectPropertyExpression = Some l.object_properties
told_of l sort.DataPropertyExpression = Some l.data_properties
told_of l sort.Individual = Some l.individuals
told_of l sort.Literal = Some l.literals
told_of l sort.FacetPair = Some l.facets
told_of l _ = None

-- what is told of such elements
abbrev pub told : Listed → Element → Option Bool
told l (OfSort s) = told_of l s
told l Key = Some l.keys

-- the term is a list of the elements of which this is told, and of no others of which it is
abbrev pub IsListed : List Triple → List Entity → Term → Listed → Type 0
IsListed g k x l = (e : Element) → IfSome (told l e) (λ known. IsTrue known ↔ IsListOf g (is_element g k e) 0 x)

-- so it is of the node with the number, where something is known of it
abbrev pub IsKnownAt : List Triple → List Entity → ℕ → Option Listed → Type 0
IsKnownAt g k number known = (label : List ℕ) → slice_get (blank_nodes g) number ≡ Some label → IfSome known (IsListed g k (Blank label))

-- so it is of each node
pub record AreKnownLists (g : List Triple) (k : List Entity) (lists : List (Option Listed)) : Type 0 where
  pub at : (number : ℕ) → IfSome (slice_get lists number) (IsKnownAt g k number)

-- the roles and the lists are those of the graph, of which each node has its form
pub record IsSource (source : Source) : Type 0 where
  pub table : IsTableOf source.graph.now source.roles.now
  pub formed : AreNodesFormed source.graph.now
  pub lists : AreKnownLists source.graph.now source.kinds.now source.lists.now

-- the object of the triple is a cell, and the triple is not one of a reification
abbrev pub names_cell : List Triple → Triple → Bool
names_cell g t = is_role role.List (role_of g t.object) && not (carries word.AnnotatedTarget t)
