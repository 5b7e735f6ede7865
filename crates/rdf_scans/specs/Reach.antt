-- Which nodes axioms reach, as marks by the numbers of nodes (Mapping to RDF Graphs, section 3).
use Rattle.std.specs.Prelude.{◌≡◌, ◌↔◌, ◌⊎◌, ◌<◌, ℕ, Bool, true, false, IsTrue, List, Contains, Option, None, Some, length, slice_get, slice_index_or}
use Rattle.rdf_graph.specs.declared.term.Term.{Term}
use Rattle.rdf_graph.specs.declared.term.Term.TheVariants.{Blank}
use Rattle.rdf_graph.specs.declared.triple.Triple.{Triple}
use Rattle.rdf_meaning.specs.declared.role.Role.{Role}
use Rattle.rdf_meaning.specs.declared.role.Role.TheVariants as role
use Rattle.rdf_meaning.specs.Nodes.{is_own, role_of}
use Rattle.rdf_meaning.specs.Statements.{IsReached, IsRoot}
use Rattle.rdf_faults.specs.Faults.{IsOrphan}
use Rattle.rdf_roles.specs.Tables.{IsNode, blank_nodes}
use Rattle.rdf_roles.specs.Ways.{IsWayDown}
use Rattle.rdf_scans.specs.declared.reading.Reading.{Reading}
use Rattle.rdf_scans.specs.Sorts.{is_main, sort_in}

abbrev pub IsOrphanIn : Reading → List ℕ → Type 0
IsOrphanIn reading label = IsOrphan reading.graph.now reading.kinds.now reading.header.now label

abbrev pub IsReachedIn : Reading → Term → Type 0
IsReachedIn reading x = IsReached reading.graph.now reading.kinds.now reading.header.now x

abbrev pub IsRootIn : Reading → Term → Type 0
IsRootIn reading x = IsRoot reading.graph.now reading.kinds.now reading.header.now x

abbrev pub has_mark : List Bool → ℕ → Bool
has_mark marks number = slice_index_or marks number false

-- the triples of the term make it something
abbrev pub HasRole : List Triple → Term → Type 0
HasRole g x = role_of g x ≡ role.Individual → ⊥

-- the term is the node with the number, and has a role
pub record IsNodeWithRole (g : List Triple) (x : Term) (number : ℕ) : Type 0 where
  pub node : IsNode g x number
  pub has_role : HasRole g x

abbrev pub IsNumberWithRole : List Triple → Term → Option ℕ → Type 0
IsNumberWithRole g x None = (number : ℕ) → IsNodeWithRole g x number → ⊥
IsNumberWithRole g x (Some number) = IsNodeWithRole g x number

-- of the nodes with a role, those have a mark of which the fact holds
pub record AreMarked (g : List Triple) (P : Term → Type 0) (marks : List Bool) : Type 0 where
  pub each : length marks ≡ length (blank_nodes g)
  pub told : (number : ℕ) (label : List ℕ) → slice_get (blank_nodes g) number ≡ Some label → HasRole g (Blank label) → IsTrue (has_mark marks number) ↔ P (Blank label)

-- marks are set at the numbers of which the fact holds
pub record AddsMarks (P : ℕ → Type 0) (old new : List Bool) : Type 0 where
  pub each : length new ≡ length old
  pub told : (number : ℕ) → number < length old → IsTrue (has_mark new number) ↔ (IsTrue (has_mark old number) ⊎ P number)

-- it holds of the number by one of the triples
pub record IsBySome (F : Triple → ℕ → Type 0) (ts : List Triple) (number : ℕ) : Type 0 where
  pub triple : Triple
  pub inside : Contains ts triple
  pub holds : F triple number

-- the triple is an axiom, and the node with the number is its subject or its object
abbrev pub IsEndOf : Reading → Triple → ℕ → Type 0
IsEndOf reading t number =
    IsTrue (is_main (sort_in reading t)) × (IsNodeWithRole reading.graph.now t.subject number ⊎ IsNodeWithRole reading.graph.now t.object number)

-- the triple is one that makes a node of the role what it is, and its object is the node with the number
abbrev pub IsObjectOf : List Triple → Role → Triple → ℕ → Type 0
IsObjectOf g r t number = IsTrue (is_own r t) × IsNodeWithRole g t.object number

-- what is straight below a node of the role is reached, by whether the node is
abbrev pub reaches_on : Role → Bool → Bool
reaches_on role.Main reached = true
reaches_on role.Note reached = false
reaches_on r reached = reached

-- the second node is straight below the first, and reached for that
pub record IsNext (g : List Triple) (marks : List Bool) (number next : ℕ) : Type 0 where
  pub label : List ℕ
  pub at : slice_get (blank_nodes g) number ≡ Some label
  pub on : IsTrue (reaches_on (role_of g (Blank label)) (has_mark marks number))
  pub way : IsWayDown g number next
  pub has_role : HasRole g (Blank way.to)
