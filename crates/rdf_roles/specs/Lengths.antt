-- The lengths of lists, by the numbers of nodes.
use Rattle.std.specs.Prelude.{◌≡◌, ℕ, List, Option, None, Some, slice_get, slice_index}
use Rattle.rdf_graph.specs.declared.term.Term.{Term}
use Rattle.rdf_graph.specs.declared.term.Term.TheVariants.{Blank}
use Rattle.rdf_graph.specs.declared.triple.Triple.{Triple}
use Rattle.rdf_meaning.specs.declared.role.Role.{Role}
use Rattle.rdf_meaning.specs.declared.role.Role.TheVariants as role
use Rattle.rdf_meaning.specs.Nodes.{of_subject, role_of}
use Rattle.std.specs.List.{AllByRecursion}
use Rattle.rdf_meaning.specs.Denotation.{Fits, of_node}
use Rattle.rdf_meaning.specs.Rows.{Row}
use Rattle.rdf_faults.specs.Formed.{HasFormAt, HasLength}
use Rattle.rdf_roles.specs.Tables.{IsNode, LeadsBetween, blank_nodes, table_of}

-- where the node with the number is a cell, it is a list of so many elements
abbrev pub HasLengthAt : List Triple → ℕ → ℕ → Type 0
HasLengthAt g number n = (label : List ℕ) → slice_get (blank_nodes g) number ≡ Some label → role_of g (Blank label) ≡ role.List → HasLength g (Blank label) n

-- each cell is a list of the length that stands at its number
pub record AreLengths (g : List Triple) (lengths : List ℕ) : Type 0 where
  pub of_cell : (number : ℕ) → HasLengthAt g number (slice_index lengths number)

-- where the term is a cell, its length stands at its number
abbrev pub IsKnown : List Triple → List ℕ → Term → Type 0
IsKnown g lengths x = (number : ℕ) → IsNode g x number → role_of g x ≡ role.List → HasLength g x (slice_index lengths number)

-- so it is of all nodes to which the node with the number leads
abbrev pub AreKnownBelow : List Triple → List ℕ → ℕ → Type 0
AreKnownBelow g lengths number = (next : ℕ) → LeadsBetween g number next → HasLengthAt g next (slice_index lengths next)

-- the term is a list of so many elements, or is none
abbrev pub IsLength : List Triple → Term → Option ℕ → Type 0
IsLength g x None = (n : ℕ) → HasLength g x n → ⊥
IsLength g x (Some n) = HasLength g x n

-- the table and the lengths are those of the graph, and the role and the triples those of the node
pub record IsSeen (g : List Triple) (x : Term) (entries : List (List ℕ × Role)) (lengths : List ℕ) (r : Role) (triples : List Triple) : Type 0 where
  pub table : entries ≡ table_of g
  pub lengths_are : AreLengths g lengths
  pub role : r ≡ role_of g x
  pub about : triples ≡ of_subject g x

-- the node's triples are those of the row, and have their form
abbrev pub IsFormedBy : List Triple → Term → Row → Type 0
IsFormedBy g x row = Fits g (of_node x) row × AllByRecursion (HasFormAt g x) row.parts
