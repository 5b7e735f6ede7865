-- The roles of the blank nodes of a graph, as a table, and an order in which each node stands behind those that it leads to.
use Rattle.std.specs.Prelude.{◌≡◌, ◌↔◌, ◌⊎◌, ℕ, Bool, false, List, [], ◌∷◌, ◌++◌, Contains, Option, None, Some, length, map, slice_get}
use Rattle.std.specs.Map.{keys_of}
use Rattle.directed_graphs.specs.Cycles.{IsOrder, successors}
use Rattle.rdf_graph.specs.declared.term.Term.{Term}
use Rattle.rdf_graph.specs.declared.term.Term.TheVariants.{Iri, Blank, Literal}
use Rattle.rdf_graph.specs.declared.triple.Triple.{Triple}
use Rattle.rdf_meaning.specs.declared.role.Role.{Role}
use Rattle.rdf_meaning.specs.Nodes.{is_same, role_of, subjects_of}
use Rattle.rdf_meaning.specs.Statements.{IsDirectlyBelow, IsDirectlyNotedUnder}

abbrev pub labels_in : List Term → List (List ℕ)
labels_in [] = []
labels_in (Iri iri ∷ more) = labels_in more
labels_in (Blank label ∷ more) = label ∷ labels_in more
labels_in (Literal literal ∷ more) = labels_in more

-- the labels of the blank nodes that have triples of their own, each once, in ascending order
unfoldable pub blank_nodes : List Triple → List (List ℕ)
blank_nodes g = labels_in (subjects_of g)

-- labels with their roles, and the numbers of labels in some order
pub record RoleTable : Type 0 where
  pub nodes : List (List ℕ × Role)
  pub order : List ℕ

abbrev pub with_role : List Triple → List ℕ → List ℕ × Role
with_role g label = (label, role_of g (Blank label))

-- all of them with their roles
unfoldable pub table_of : List Triple → List (List ℕ × Role)
table_of g = map (with_role g) (blank_nodes g)

-- a table with the term behind, where it is a blank node
abbrev pub with_node : List Triple → List (List ℕ × Role) → Term → List (List ℕ × Role)
with_node g entries x = entries ++ map (with_role g) (labels_in (x ∷ []))

-- the term is no node of the table
abbrev pub IsNew : List (List ℕ × Role) → Term → Type 0
IsNew entries term = (label : List ℕ) → term ≡ Blank label → Contains (map (λ entry. entry.0) entries) label → ⊥

-- the term is the node with the number, and has none where it is no node
pub record IsNode (g : List Triple) (x : Term) (number : ℕ) : Type 0 where
  pub label : List ℕ
  pub is : x ≡ Blank label
  pub at : slice_get (blank_nodes g) number ≡ Some label

-- what stands in the table at the number
abbrev pub IsNodeAt : List Triple → ℕ → Option (List ℕ × Role) → Type 0
IsNodeAt g number None = slice_get (blank_nodes g) number ≡ None
IsNodeAt g number (Some node) = (slice_get (blank_nodes g) number ≡ Some node.0) × (node.1 ≡ role_of g (Blank node.0))

abbrev pub IsNumber : List Triple → Term → Option ℕ → Type 0
IsNumber g x None = (number : ℕ) → IsNode g x number → ⊥
IsNumber g x (Some number) = IsNode g x number

-- the place of the label in a table, none where it does not stand there
abbrev pub HasNumber : List (List ℕ × Role) → List ℕ → Option ℕ → Type 0
HasNumber nodes label None = Contains (keys_of nodes) label → ⊥
HasNumber nodes label (Some number) = slice_get (keys_of nodes) number ≡ Some label

-- the label that stands in a table at the number, none where the table is not so long
abbrev pub StandsAt : List (List ℕ × Role) → ℕ → Option (List ℕ) → Type 0
StandsAt nodes number found = slice_get (keys_of nodes) number ≡ found

-- the first of the triples has this subject
abbrev pub begins_with : List Triple → Term → Bool
begins_with [] x = false
begins_with (t ∷ more) x = is_same t.subject x

-- from the node straight down to the other, or from a reification to one of its annotations'
abbrev pub LeadsTo : List Triple → Term → Term → Type 0
LeadsTo g x y = IsDirectlyBelow g y x ⊎ IsDirectlyNotedUnder g y x

-- the nodes with these two numbers are so
pub record LeadsBetween (g : List Triple) (i j : ℕ) : Type 0 where
  pub from : List ℕ
  pub to : List ℕ
  pub from_at : slice_get (blank_nodes g) i ≡ Some from
  pub to_at : slice_get (blank_nodes g) j ≡ Some to
  pub leads : LeadsTo g (Blank from) (Blank to)

-- the edges from each number are to those of the nodes to which its node leads
pub record AreEdges (g : List Triple) (edges : List (List ℕ)) : Type 0 where
  pub each : length edges ≡ length (blank_nodes g)
  pub leads : (i j : ℕ) → Contains (successors edges i) j ↔ LeadsBetween g i j

-- each node stands behind all to which it leads
pub record IsNodeOrder (g : List Triple) (order : List ℕ) : Type 0 where
  pub edges : List (List ℕ)
  pub are : AreEdges g edges
  pub is_order : IsOrder edges order

-- the roles of the graph's nodes
pub record IsTableOf (g : List Triple) (table : RoleTable) : Type 0 where
  pub nodes : table.nodes ≡ map (with_role g) (blank_nodes g)
  pub order : IsNodeOrder g table.order
