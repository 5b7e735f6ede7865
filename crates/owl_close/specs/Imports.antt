-- Which documents a main document imports (Structural Specification, section 3.4). Documents stand in a list by their heads,
-- the main one first, and are called by their places in it.
use Rattle.std.specs.Prelude.{◌≡◌, ◌↔◌, ◌⊎◌, ◌<◌, ◌≤◌, ℕ, List, Some, Contains, IsSomeAnd, map, slice_get}
use Rattle.std.specs.declared.cmp.Ordering.TheVariants.{Less}
use Rattle.std.specs.Ordering.{nat_cmp}
use Rattle.owl_characters.specs.Order.{text_cmp}
use Rattle.owl_doc.specs.Heads.{head_of}
use Rattle.owl_doc.specs.declared.head.Head as held
use Rattle.owl_list.specs.Ascending.{IsAscending}
use Rattle.owl_tree.specs.Ontologies.{Head}

abbrev pub heads_of : List held.Head → List Head
heads_of = map head_of

-- the IRI is the ontology IRI or the version IRI (section 3.1), under which a document is to be had (section 3.2)
abbrev pub IsNamedBy : Head → List ℕ → Type 0
IsNamedBy head iri = IsSomeAnd head.name (λ name. (name.iri ≡ iri) ⊎ (name.version ≡ Some iri))

-- the document at this place has this name
abbrev pub IsNamedAt : List Head → List ℕ → ℕ → Type 0
IsNamedAt heads iri place = IsSomeAnd (slice_get heads place) (λ head. IsNamedBy head iri)

-- the first document with this name
pub record Names (heads : List Head) (iri : List ℕ) (place : ℕ) : Type 0 where
  pub named : IsNamedAt heads iri place
  pub first : (other : ℕ) → other < place → IsNamedAt heads iri other → ⊥

-- no document has this name
abbrev pub NamesNone : List Head → List ℕ → Type 0
NamesNone heads iri = (place : ℕ) → IsNamedAt heads iri place → ⊥

-- the document has this import
abbrev pub HasImport : List Head → ℕ → List ℕ → Type 0
HasImport heads place iri = IsSomeAnd (slice_get heads place) (λ head. Contains head.imports iri)

-- one document imports the other directly
pub record Imports (heads : List Head) (from to : ℕ) : Type 0 where
  pub iri : List ℕ
  pub import : HasImport heads from iri
  pub names : Names heads iri to

-- the import closure of the main document: itself, and what a reached document imports
pub data Reaches (heads : List Head) : ℕ → Type 0 where
  main : Reaches heads 0
  import : (from to : ℕ) → Reaches heads from → Imports heads from to → Reaches heads to

-- the places that are reached, in ascending order
pub record AreReached (heads : List Head) (places : List ℕ) : Type 0 where
  pub ascending : IsAscending nat_cmp places
  pub reached : (place : ℕ) → Contains places place ↔ Reaches heads place

-- a reached document has an import that names no document
pub record IsMissing (heads : List Head) (place : ℕ) (iri : List ℕ) : Type 0 where
  pub reached : Reaches heads place
  pub import : HasImport heads place iri
  pub none : NamesNone heads iri

-- each import of a reached document names one
abbrev pub MissesNone : List Head → Type 0
MissesNone heads = (place : ℕ) (iri : List ℕ) → IsMissing heads place iri → ⊥

-- of the first document that misses some import the least that it misses, in order of bytes
pub record IsFirstMissing (heads : List Head) (place : ℕ) (iri : List ℕ) : Type 0 where
  pub missing : IsMissing heads place iri
  pub first : (other : ℕ) (theirs : List ℕ) → IsMissing heads other theirs → place ≤ other
  pub least : (other : List ℕ) → IsMissing heads place other → text_cmp other iri ≡ Less → ⊥
