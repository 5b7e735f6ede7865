-- What documents declare: one of them, or those that the main one reaches (Structural Specification, section 5.8).
use Rattle.std.specs.Prelude.{◌≡◌, ◌<◌, ◌⊎◌, ◌↔◌, ℕ, List, Some, Contains, length, slice_get}
use Rattle.owl_kind.specs.declared.kind.Kind.{Kind}
use Rattle.owl_kind.specs.Kinds.{Entity, IsDeclared}
use Rattle.owl_kind.specs.Order.{AreOrdered}
use Rattle.owl_close.specs.Imports.{AreReached, Reaches}
use Rattle.owl_documents.specs.Documents.{DeclaresAs, Parsed}
use Rattle.owl_answer.specs.Outcome.{heads_in}
use Rattle.owl_answer.specs.declared.closure.Closure.{Closure}

-- what the document declares, in order
pub record AreOwnKinds (parsed : Parsed) (kinds : List Entity) : Type 0 where
  pub declared : (kind : Kind) (iri : List ℕ) → IsDeclared kinds kind iri ↔ DeclaresAs parsed kind iri
  pub ordered : AreOrdered kinds

-- a document stands at this place and declares the IRI as this kind
pub record DeclaresAt (documents : List Parsed) (place : ℕ) (kind : Kind) (iri : List ℕ) : Type 0 where
  pub parsed : Parsed
  pub there : slice_get documents place ≡ Some parsed
  pub declares : DeclaresAs parsed kind iri

-- so it is at one of these places
pub record IsDeclaredAt (documents : List Parsed) (places : List ℕ) (kind : Kind) (iri : List ℕ) : Type 0 where
  pub place : ℕ
  pub among : Contains places place
  pub at : DeclaresAt documents place kind iri

-- what is declared is what the documents at these places declare
abbrev pub AreDeclaredAt : List Parsed → List ℕ → List Entity → Type 0
AreDeclaredAt documents places kinds =
    (kind : Kind) (iri : List ℕ) → IsDeclared kinds kind iri ↔ IsDeclaredAt documents places kind iri

-- what was declared before, and what the document declares
abbrev pub AddsOf : Parsed → List Entity → List Entity → Type 0
AddsOf parsed old new = (kind : Kind) (iri : List ℕ) → IsDeclared new kind iri ↔ (IsDeclared old kind iri ⊎ DeclaresAs parsed kind iri)

-- what was declared before, and what the document at this place declares
abbrev pub AddsAt : List Parsed → ℕ → List Entity → List Entity → Type 0
AddsAt documents place old new =
    (kind : Kind) (iri : List ℕ) → IsDeclared new kind iri ↔ (IsDeclared old kind iri ⊎ DeclaresAt documents place kind iri)

-- a document that the main one reaches declares the IRI as this kind
pub record IsDeclaredInClosure (documents : List Parsed) (kind : Kind) (iri : List ℕ) : Type 0 where
  pub place : ℕ
  pub reached : Reaches (heads_in documents) place
  pub at : DeclaresAt documents place kind iri

-- what the documents declare that the main one reaches, in order
pub record AreClosureKinds (documents : List Parsed) (kinds : List Entity) : Type 0 where
  pub declared : (kind : Kind) (iri : List ℕ) → IsDeclared kinds kind iri ↔ IsDeclaredInClosure documents kind iri
  pub ordered : AreOrdered kinds

-- the places of the documents that the main one reaches, and what is declared there
pub record IsClosure (documents : List Parsed) (closure : Closure) : Type 0 where
  pub some : 0 < length documents
  pub reached : AreReached (heads_in documents) closure.places.items
  pub declared : AreClosureKinds documents closure.kinds
