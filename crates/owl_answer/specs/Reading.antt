-- What reading documents under kinds finds.
use Rattle.std.specs.Prelude.{◌≡◌, ◌≢◌, ◌⊎◌, ◌++◌, ℕ, Bool, true, false, List, [], ◌∷◌, Some, Contains, slice_get}
use Rattle.std.specs.List.{AllByRecursion, AllZip}
use Rattle.owl_doc.specs.Documents as doc
use Rattle.owl_documents.specs.Documents.{Parsed, Said, a_graph, an_ontology, in_bytes, in_functional, said_of, the_frames}
use Rattle.owl_kind.specs.Kinds.{Entity}
use Rattle.owl_messages.specs.declared.unsaid.UnsaidFault.{UnsaidFault}
use Rattle.owl_messages.specs.declared.unsaid.UnsaidFault.TheVariants.{Memory}
use Rattle.owl_tree.specs.Ontologies.{canonical_ontology}
use Rattle.owl_answer.specs.KindsAt.{AreOwnKinds, IsClosure}
use Rattle.owl_answer.specs.UnderKinds.{IsUnsaidUnder, SaysSome, SaysUnder}
use Rattle.owl_answer.specs.declared.closure.Closure.{Closure}
use Rattle.owl_answer.specs.declared.reading.Saying.{Saying}
use Rattle.owl_answer.specs.declared.reading.Saying.TheVariants.{Held, Read}
use Rattle.owl_answer.specs.declared.reading.Unsaid.{Unsaid}

-- the ontology
abbrev pub doc_in : Saying → doc.Document
doc_in (Held doc) = doc.now
doc_in (Read doc) = doc

abbrev pub said_in : Saying → Said
said_in saying = said_of (doc_in saying)

-- this is why the document says nothing under these kinds, unless memory ran out
abbrev pub IsFaultUnder : List Entity → Parsed → UnsaidFault → Type 0
IsFaultUnder kinds parsed fault = fault ≢ Memory → IsUnsaidUnder kinds parsed fault

-- the document says this under these kinds, and it stands in canonical form
pub record IsSaidAs (kinds : List Entity) (parsed : Parsed) (d : doc.Document) : Type 0 where
  pub says : SaysUnder kinds parsed (said_of d)
  pub canonical : canonical_ontology (doc.ontology_of d) ≡ doc.ontology_of d

-- behind the others stands what the document says under these kinds
pub record SaysNext (kinds : List Entity) (parsed : Parsed) (before after : List doc.Document) : Type 0 where
  pub more : doc.Document
  pub said : IsSaidAs kinds parsed more
  pub is : after ≡ before ++ more ∷ []

-- so it does where its place is one of the closure's, and else nothing is added
abbrev pub SaysReached : Closure → ℕ → Parsed → List doc.Document → List doc.Document → Type 0
SaysReached closure place parsed before after =
    (Contains closure.places.items place × SaysNext closure.kinds parsed before after) ⊎ ((Contains closure.places.items place → ⊥) × (after ≡ before))

-- the place is one of the closure's, and this is why its document says nothing
abbrev pub IsReachedFault : Closure → ℕ → Parsed → UnsaidFault → Type 0
IsReachedFault closure place parsed fault = Contains closure.places.items place × IsFaultUnder closure.kinds parsed fault

-- what the document says under the kinds that it declares itself
pub record SaysAlone (parsed : Parsed) (said : Said) : Type 0 where
  pub kinds : List Entity
  pub own : AreOwnKinds parsed kinds
  pub says : SaysUnder kinds parsed said

-- why it says nothing under them
pub record IsUnsaidAlone (parsed : Parsed) (fault : UnsaidFault) : Type 0 where
  pub kinds : List Entity
  pub own : AreOwnKinds parsed kinds
  pub unsaid : IsUnsaidUnder kinds parsed fault

-- a document stands at this place, and says this under these kinds
pub record IsSaidAt (documents : List Parsed) (kinds : List Entity) (place : ℕ) (d : doc.Document) : Type 0 where
  pub parsed : Parsed
  pub there : slice_get documents place ≡ Some parsed
  pub said : IsSaidAs kinds parsed d

-- the documents at these places say this, one by one
abbrev pub AllSayAt : List Parsed → List Entity → List ℕ → List doc.Document → Type 0
AllSayAt documents kinds places ds = AllZip (IsSaidAt documents kinds) places ds

-- a document that stands at this place says something
abbrev pub SaysSomeAt : List Parsed → List Entity → ℕ → Type 0
SaysSomeAt documents kinds place = (parsed : Parsed) → slice_get documents place ≡ Some parsed → SaysSome kinds parsed

-- a document stands at this place, and this is why it says nothing, unless memory ran out
abbrev pub IsFaultAt : List Parsed → List Entity → ℕ → UnsaidFault → Type 0
IsFaultAt documents kinds place fault = (parsed : Parsed) × (slice_get documents place ≡ Some parsed) × IsFaultUnder kinds parsed fault

-- the first of these places where a document says nothing
pub record IsFirstFault (documents : List Parsed) (kinds : List Entity) (places : List ℕ) (unsaid : Unsaid) : Type 0 where
  pub before : List ℕ
  pub after : List ℕ
  pub split : places ≡ before ++ unsaid.document ∷ after
  pub say : AllByRecursion (SaysSomeAt documents kinds) before
  pub fault : IsFaultAt documents kinds unsaid.document unsaid.fault

-- What is written in Functional-Style Syntax may be written in it again as it is. Of another document each name is to have its kind.
abbrev pub asks_types : Parsed → Bool
asks_types (an_ontology in_functional said) = false
asks_types (an_ontology in_bytes said) = true
asks_types (a_graph read) = true
asks_types (the_frames d) = true

-- The documents of the closure say this, and this tells whether the main one asks for types.
pub record IsReadAs (documents : List Parsed) (closure : Closure) (ds : List doc.Document) (asked : Bool) : Type 0 where
  pub closed : IsClosure documents closure
  pub say : AllSayAt documents closure.kinds closure.places.items ds
  pub main : Parsed
  pub there : slice_get documents 0 ≡ Some main
  pub asks : asks_types main ≡ asked
