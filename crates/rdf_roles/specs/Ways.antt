-- The ways from node to node, by the numbers of nodes.
use Rattle.std.specs.Prelude.{◌≡◌, ◌↔◌, ◌⊎◌, ◌<◌, ℕ, Bool, true, not, ◌&&◌, List, [], ◌++◌, ◌∷◌, Contains, Some, length, slice_get, slice_set}
use Rattle.std.specs.List.{list_any}
use Rattle.directed_graphs.specs.Cycles.{successors}
use Rattle.rdf_graph.specs.declared.term.Term.{Term}
use Rattle.rdf_graph.specs.declared.term.Term.TheVariants.{Blank, Iri}
use Rattle.rdf_graph.specs.declared.triple.Triple.{Triple}
use Rattle.rdf_meaning.specs.declared.role.Role.{Role}
use Rattle.rdf_meaning.specs.declared.role.Role.TheVariants as role
use Rattle.rdf_meaning.specs.declared.word.Word.TheVariants as word
use Rattle.rdf_rows.specs.Chosen.{objects_with}
use Rattle.rdf_meaning.specs.Nodes.{is_own, is_same}
use Rattle.rdf_meaning.specs.Statements.{IsDirectlyBelow, IsDirectlyNotedUnder}
use Rattle.rdf_roles.specs.Tables.{IsNode, blank_nodes}

-- the second node is straight below the first
pub record IsWayDown (g : List Triple) (i j : ℕ) : Type 0 where
  pub from : List ℕ
  pub to : List ℕ
  pub from_at : slice_get (blank_nodes g) i ≡ Some from
  pub to_at : slice_get (blank_nodes g) j ≡ Some to
  pub below : IsDirectlyBelow g (Blank to) (Blank from)

abbrev pub AreWaysDown : List Triple → ℕ → List ℕ → Type 0
AreWaysDown g i nexts = (j : ℕ) → Contains nexts j ↔ IsWayDown g i j

-- the second node is noted under the first
pub record IsWayToNote (g : List Triple) (i j : ℕ) : Type 0 where
  pub from : List ℕ
  pub to : List ℕ
  pub from_at : slice_get (blank_nodes g) i ≡ Some from
  pub to_at : slice_get (blank_nodes g) j ≡ Some to
  pub noted : IsDirectlyNotedUnder g (Blank to) (Blank from)

-- so many nodes have the ways down
pub record HaveWaysDown (g : List Triple) (count : ℕ) (ways : List (List ℕ)) : Type 0 where
  pub each : length ways ≡ count
  pub down : (i : ℕ) → i < count → AreWaysDown g i (successors ways i)

-- all ways down, and the ways to those of the first so many nodes that are noted
pub record AreWays (g : List Triple) (count : ℕ) (ways : List (List ℕ)) : Type 0 where
  pub each : length ways ≡ length (blank_nodes g)
  pub leads : (i j : ℕ) → Contains (successors ways i) j ↔ (IsWayDown g i j ⊎ ((j < count) × IsWayToNote g i j))

-- the node with the number is the object of an own triple among these, of a node of the role
pub record IsObjectIn (g : List Triple) (r : Role) (triples : List Triple) (number : ℕ) : Type 0 where
  pub triple : Triple
  pub inside : Contains triples triple
  pub own : is_own r triple ≡ true
  pub node : IsNode g triple.object number

-- the numbers of these nodes are added to others
abbrev pub AddsObjects : List Triple → Role → List Triple → List ℕ → List ℕ → Type 0
AddsObjects g r triples old new = (j : ℕ) → Contains new j ↔ (Contains old j ⊎ IsObjectIn g r triples j)

-- the node with the number is one of the terms, under which the reification is noted
pub record IsUnderIn (g : List Triple) (s : Term) (terms : List Term) (number : ℕ) : Type 0 where
  pub term : Term
  pub inside : Contains terms term
  pub node : IsNode g term number
  pub noted : IsDirectlyNotedUnder g s term

-- ways to the reification are added, from those of the terms under which it is noted
pub record AddsUnders (g : List Triple) (s : Term) (number : ℕ) (old new : List (List ℕ)) (terms : List Term) : Type 0 where
  pub each : length new ≡ length old
  pub ways : (i j : ℕ) → Contains (successors new i) j ↔ (Contains (successors old i) j ⊎ ((j ≡ number) × IsUnderIn g s terms i))

-- the node with these triples reifies the triple
abbrev pub reifies_with : List Triple → Triple → Bool
reifies_with note t =
    list_any (is_same t.subject) (objects_with word.AnnotatedSource note) && list_any (is_same (Iri t.predicate)) (objects_with word.AnnotatedProperty note)
    && list_any (is_same t.object) (objects_with word.AnnotatedTarget note)

-- and the triple is an annotation of a reification
abbrev pub reifies_note : List Triple → Triple → Bool
reifies_note note t = not (is_own role.Note t) && reifies_with note t

-- with a way more
abbrev pub with_way : List (List ℕ) → ℕ → ℕ → List (List ℕ)
with_way ways from to = slice_set ways from (successors ways from ++ to ∷ [])
