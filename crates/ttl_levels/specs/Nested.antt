-- Which blank nodes of a graph are written in brackets or as collections (RDF 1.1 Turtle, sections 2.7 and 2.8).
use Rattle.std.specs.Prelude.{◌≡◌, ◌⊎◌, ◌<◌, ◌≤◌, ◌+◌, ◌&&◌, ℕ, zero, suc, Bool, true, false, nat_eq, List, [], ◌∷◌, Contains, length, codes}
use Rattle.std.specs.List.{filter, list_all}
use Rattle.rdf_graph.specs.declared.term.Term.{Term}
use Rattle.rdf_graph.specs.declared.term.Term.TheVariants.{Iri}
use Rattle.rdf_graph.specs.declared.triple.Triple.{Triple}
use Rattle.rdf_meaning.specs.declared.role.Role.{Role}
use Rattle.rdf_meaning.specs.declared.role.Role.TheVariants as role
use Rattle.rdf_meaning.specs.Nodes.{is_same, is_structural, nil_iri, of_subject, role_of}
use Rattle.rdf_terms.specs.Vocabulary.{rdf}

abbrev pub first_iri : List ℕ
first_iri = rdf (codes "first")

abbrev pub rest_iri : List ℕ
rest_iri = rdf (codes "rest")

-- the role is that of a list, or of an expression or a facet
abbrev pub is_part : Role → Bool
is_part role.List = true
is_part role.Property = true
is_part role.Class = true
is_part role.Range = true
is_part role.Facet = true
is_part _ = false

-- the triples of which the term is the object
abbrev pub named_by : List Triple → Term → List Triple
named_by g x = filter (λ t. is_same t.object x) g

-- A node of such a role, that is the object of exactly one triple, and of which all own triples are structural.
unfoldable pub is_nestable : List Triple → Term → Bool
is_nestable g x = is_part (role_of g x) && (nat_eq (length (named_by g x)) 1 && list_all (is_structural g) (of_subject g x))

-- a nestable cell, which has exactly two triples
pub record IsNestableCell (g : List Triple) (x first rest : Term) : Type 0 where
  pub nestable : is_nestable g x ≡ true
  pub list : role_of g x ≡ role.List
  pub triples : of_subject g x ≡ record { subject = x; predicate = first_iri; object = first } ∷ record { subject = x; predicate = rest_iri; object = rest } ∷ []

-- so many such cells, and rdf:nil at their end
abbrev pub HasCells : List Triple → ℕ → Term → Type 0
HasCells g zero x = x ≡ Iri nil_iri
HasCells g (suc n) x = (first : Term) × (rest : Term) × IsNestableCell g x first rest × HasCells g n rest

-- a round node: one or more of them
abbrev pub IsRound : List Triple → Term → Type 0
IsRound g x = (n : ℕ) × HasCells g (suc n) x

-- the triple leads from a round node to its rest, which is round
pub record IsInside (g : List Triple) (t : Triple) : Type 0 where
  pub cell : IsRound g t.subject
  pub predicate : t.predicate ≡ rest_iri
  pub rest : IsRound g t.object

-- the most levels of brackets and collections
abbrev pub most_levels : ℕ
most_levels = 500

-- the level of the object of the triple, where its subject has the first one
abbrev pub IsNextLevel : List Triple → Triple → ℕ → ℕ → Type 0
IsNextLevel g t n m =
    ((most_levels < n) × (m ≡ 1))
    ⊎ ((n ≤ most_levels) × IsInside g t × (m ≡ n))
    ⊎ ((n ≤ most_levels) × (IsInside g t → ⊥) × (m ≡ n + 1))

-- the nestable node is the object of the triple
pub record IsNestedBy (g : List Triple) (x : Term) (t : Triple) : Type 0 where
  pub nestable : is_nestable g x ≡ true
  pub inside : Contains g t
  pub object : t.object ≡ x

-- Levels of nestable nodes: 1 below one that is not nested. One that is too deep is not nested.
pub data HasLevel (g : List Triple) : Term → ℕ → Type 0 where
  at_top : (x : Term) (t : Triple) → IsNestedBy g x t → is_nestable g t.subject ≡ false → HasLevel g x 1
  below : (x : Term) (t : Triple) (n m : ℕ) → IsNestedBy g x t → HasLevel g t.subject n → IsNextLevel g t n m → HasLevel g x m

pub record IsNested (g : List Triple) (x : Term) : Type 0 where
  pub level : ℕ
  pub has : HasLevel g x level
  pub few : level ≤ most_levels
