-- By which nodes each triple of a graph is annotated, by numbers (Mapping to RDF Graphs, section 2.3).
use Rattle.std.specs.Prelude.{◌≡◌, ◌↔◌, ℕ, Bool, true, false, not, ◌&&◌, cond, nat_eq, IsTrue, List, [], ◌∷◌, ◌++◌, Option, Some, option_map, map, slice_get, take}
use Rattle.std.specs.List.{filter, list_any}
use Rattle.std.specs.Map.{keys_of, lookup}
use Rattle.std.specs.Option.{unwrap_or}
use Rattle.std.specs.declared.vec.Vec.{Vec}
use Rattle.rdf_graph.specs.declared.term.Term.{Term}
use Rattle.rdf_graph.specs.declared.term.Term.TheVariants.{Blank}
use Rattle.rdf_graph.specs.declared.triple.Triple.{Triple}
use Rattle.rdf_meaning.specs.declared.role.Role.TheVariants as role
use Rattle.rdf_meaning.specs.Nodes.{is_own, is_role, role_of}
use Rattle.rdf_meaning.specs.Statements.{noters, notes_of, reifies}
use Rattle.rdf_roles.specs.Tables.{RoleTable, blank_nodes}
use Rattle.rdf_roles.specs.Ways.{reifies_with}

-- the node with the number
abbrev pub term_at : RoleTable → ℕ → Option Term
term_at roles number = option_map (λ label. Blank label) (slice_get (keys_of roles.nodes) number)

-- the numbers of the terms, in order
abbrev pub AreNumbersOf : RoleTable → List Term → List ℕ → Type 0
AreNumbersOf roles terms numbers = map (term_at roles) numbers ≡ map (λ x. Some x) terms

-- the numbers of some places
abbrev pub NoterTable : Type 0
NoterTable = List (ℕ × List ℕ)

-- those of a place, which has none where it is not in the table
abbrev pub numbers_of : NoterTable → ℕ → List ℕ
numbers_of table place = unwrap_or (lookup (nat_eq place) table) []

-- at the place of each triple stand the numbers of the nodes by which it is annotated
pub record AreNoters (g : List Triple) (roles : RoleTable) (table : NoterTable) : Type 0 where
  pub each : (place : ℕ) (t : Triple) → slice_get g place ≡ Some t → AreNumbersOf roles (noters g t) (numbers_of table place)

-- the same of the entries of a map
abbrev pub shown : {Z : Type 0} → List (ℕ × Vec ℕ Z) → NoterTable
shown = map (λ entry. (entry.0, entry.1.items))

abbrev pub numbers_at : {Z : Type 0} → List (ℕ × Vec ℕ Z) → ℕ → List ℕ
numbers_at entries place = unwrap_or (option_map (λ numbers. numbers.items) (lookup (nat_eq place) entries)) []

-- with a number more at the place
abbrev pub with_number : (ℕ → List ℕ) → ℕ → ℕ → ℕ → List ℕ
with_number numbers place number other = cond (nat_eq place other) (numbers other ++ number ∷ []) (numbers other)

-- some of the triples of a reification is an annotation
abbrev pub has_annotation : List Triple → Bool
has_annotation note = list_any (λ t. not (is_own role.Note t)) note

abbrev has_some : {A : Type 0} → List A → Bool
has_some [] = false
has_some (a ∷ more) = true

-- the node is a reification that reifies the triple, and has annotations
abbrev pub is_noter : List Triple → Triple → Term → Bool
is_noter g t s = is_role role.Note (role_of g s) && (reifies g s t && has_some (notes_of g s))

-- the numbers of those among the first so many nodes
pub record AreNotersUpTo (g : List Triple) (roles : RoleTable) (count : ℕ) (numbers : ℕ → List ℕ) : Type 0 where
  pub each : (place : ℕ) (t : Triple) → slice_get g place ≡ Some t →
      AreNumbersOf roles (filter (is_noter g t) (map (λ label. Blank label) (take count (blank_nodes g)))) (numbers place)

-- the place of the triple, which stands once in the graph
abbrev pub IsPlaceOf : List Triple → Triple → Option ℕ → Type 0
IsPlaceOf g wanted found = (place : ℕ) (t : Triple) → slice_get g place ≡ Some t → (t ≡ wanted) ↔ (found ≡ Some place)

-- the place of the triple that the node with these triples reifies
abbrev pub IsPlaceReified : List Triple → List Triple → Option ℕ → Type 0
IsPlaceReified g note found = (place : ℕ) (t : Triple) → slice_get g place ≡ Some t → IsTrue (reifies_with note t) ↔ (found ≡ Some place)

-- and has annotations
abbrev pub IsPlaceNoted : List Triple → List Triple → Option ℕ → Type 0
IsPlaceNoted g note found =
    (place : ℕ) (t : Triple) → slice_get g place ≡ Some t → IsTrue (reifies_with note t && has_annotation note) ↔ (found ≡ Some place)

-- the place of the triple that the node with this number annotates
pub record AnnotatesAt (g : List Triple) (number : ℕ) (found : Option ℕ) : Type 0 where
  pub label : List ℕ
  pub at : slice_get (blank_nodes g) number ≡ Some label
  pub annotates : (place : ℕ) (t : Triple) → slice_get g place ≡ Some t → IsTrue (is_noter g t (Blank label)) ↔ (found ≡ Some place)
