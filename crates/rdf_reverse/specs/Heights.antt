-- Heights of terms: a node that is no cell is higher than what its triples name. Where they are small, no tree that a graph says is too deep.
use Rattle.std.specs.Prelude.{◌≡◌, ◌≤◌, ◌+◌, ℕ, true, List, Option, None, Some, max, min}
use Rattle.std.specs.List.{AllByRecursion}
use Rattle.std.specs.Map.{lookup}
use Rattle.owl_characters.specs.Order.{text_eq}
use Rattle.rdf_graph.specs.declared.term.Term.{Term}
use Rattle.rdf_graph.specs.declared.term.Term.TheVariants.{Iri, Blank, Literal}
use Rattle.rdf_graph.specs.declared.triple.Triple.{Triple}
use Rattle.rdf_meaning.specs.declared.role.Role.{Role}
use Rattle.rdf_meaning.specs.declared.role.Role.TheVariants as role
use Rattle.rdf_meaning.specs.Nodes.{is_blank, role_of}

-- an annotation of an annotation is two levels deeper, so no more than half of the levels of a tree
abbrev pub greatest_height : ℕ
greatest_height = 60

abbrev pub bounded : Option ℕ → ℕ
bounded None = 1
bounded (Some n) = min (max n 1) greatest_height

-- the height of a term by a table: 1 or more, and the greatest at most
abbrev pub height_in : List (List ℕ × ℕ) → Term → ℕ
height_in entries (Iri iri) = 1
height_in entries (Blank label) = bounded (lookup (text_eq label) entries)
height_in entries (Literal literal) = 1

-- how much higher a node of the role is than what its triples name
abbrev pub rise : Role → ℕ
rise role.List = 0
rise _ = 1

-- a blank node is as much higher than the object of its triple
abbrev pub Rises : List Triple → (Term → ℕ) → Triple → Type 0
Rises g height t = is_blank t.subject ≡ true → height t.object + rise (role_of g t.subject) ≤ height t.subject

abbrev pub AllRise : List Triple → (Term → ℕ) → Type 0
AllRise g height = AllByRecursion (Rises g height) g
