-- What documents say once the kinds of IRIs are known (Mapping to RDF Graphs, section 3, and Manchester Syntax, section 2).
use Rattle.std.specs.Prelude.{◌≡◌, ◌≤◌, ℕ, List, Some, slice_get}
use Rattle.owl_close.specs.Imports.{Reaches}
use Rattle.owl_command.specs.Commands.{Request, compares, of_main, tries}
use Rattle.owl_documents.specs.Documents.{Parsed, Said, a_graph, an_ontology, the_frames}
use Rattle.owl_kind.specs.Kinds.{Entity}
use Rattle.rdf_reverse.specs.Guesses.{IsSaidWith, IsUnsaidWith}
use Rattle.rdf_thin.specs.Thinned.{thinned}
use Rattle.man_resolve.specs.Resolved.{FramesMean, IsUnresolved}
use Rattle.owl_messages.specs.declared.unsaid.UnsaidFault.{UnsaidFault}
use Rattle.owl_messages.specs.declared.unsaid.UnsaidFault.TheVariants.{Graph, Frames}
use Rattle.owl_answer.specs.KindsAt.{AreClosureKinds, AreOwnKinds}
use Rattle.owl_answer.specs.Outcome.{heads_in}

-- What the document says under these kinds. The redundant triples of a graph are passed over, and the annotation properties that are guessed of
-- it are declared.
abbrev pub SaysUnder : List Entity → Parsed → Said → Type 0
SaysUnder kinds (an_ontology written said) other = other ≡ said
SaysUnder kinds (a_graph read) other = (other.prefixes ≡ read.prefixes) × IsSaidWith (thinned read.triples) kinds read.guessed other.ontology
SaysUnder kinds (the_frames d) other = (other.prefixes ≡ d.prefixes) × FramesMean d kinds other.ontology

-- why it says nothing under them
abbrev pub IsUnsaidUnder : List Entity → Parsed → UnsaidFault → Type 0
IsUnsaidUnder kinds (a_graph read) (Graph fault) = IsUnsaidWith (thinned read.triples) kinds read.guessed fault
IsUnsaidUnder kinds (the_frames d) (Frames fault) = IsUnresolved d kinds fault
IsUnsaidUnder kinds parsed fault = ⊥

-- the document says something under these kinds
abbrev pub SaysSome : List Entity → Parsed → Type 0
SaysSome kinds parsed = (said : Said) × SaysUnder kinds parsed said

-- what is asked for is of a main document
abbrev pub IsOfMain : Request → Type 0
IsOfMain (of_main action options names) = Unit {0}
IsOfMain (compares first second) = ⊥
IsOfMain (tries size) = ⊥

-- what is asked for is of two documents
abbrev pub ComparesTwo : Request → Type 0
ComparesTwo (compares first second) = Unit {0}
ComparesTwo request = ⊥

-- The document at this place is read, under these kinds: each that the main one reaches under those of its closure, and each of two that are
-- compared under its own. A trial reads none of these.
abbrev pub HasKinds : Request → List Parsed → ℕ → Parsed → List Entity → Type 0
HasKinds (of_main action options names) documents place parsed kinds = Reaches (heads_in documents) place × AreClosureKinds documents kinds
HasKinds (compares first second) documents place parsed kinds = AreOwnKinds parsed kinds
HasKinds (tries size) documents place parsed kinds = ⊥

-- this document stands at this place, and is read under these kinds
pub record IsReadUnder (request : Request) (documents : List Parsed) (place : ℕ) (parsed : Parsed) (kinds : List Entity) : Type 0 where
  pub there : slice_get documents place ≡ Some parsed
  pub under : HasKinds request documents place parsed kinds

-- what the document at this place says under its kinds
pub record SaysAt (request : Request) (documents : List Parsed) (place : ℕ) (said : Said) : Type 0 where
  pub parsed : Parsed
  pub kinds : List Entity
  pub read : IsReadUnder request documents place parsed kinds
  pub says : SaysUnder kinds parsed said

-- why it says nothing under them
pub record IsUnsaidAt (request : Request) (documents : List Parsed) (place : ℕ) (fault : UnsaidFault) : Type 0 where
  pub parsed : Parsed
  pub kinds : List Entity
  pub read : IsReadUnder request documents place parsed kinds
  pub unsaid : IsUnsaidUnder kinds parsed fault

-- the first document, in the order of their names, that says nothing, and why
pub record IsFirstUnsaid (request : Request) (documents : List Parsed) (place : ℕ) (fault : UnsaidFault) : Type 0 where
  pub unsaid : IsUnsaidAt request documents place fault
  pub first : (other : ℕ) (theirs : UnsaidFault) → IsUnsaidAt request documents other theirs → place ≤ other

-- each document that is read says something
abbrev pub AllSay : Request → List Parsed → Type 0
AllSay request documents = (place : ℕ) (parsed : Parsed) (kinds : List Entity) → IsReadUnder request documents place parsed kinds → SaysSome kinds parsed

-- this holds of the main document, of the kinds that it is read under, and of what it says under them
pub record HoldsOfMain (request : Request) (documents : List Parsed) (Holds : Parsed → List Entity → Said → Type 0) : Type 0 where
  pub said : Said
  pub main : SaysAt request documents 0 said
  pub holds : Holds main.parsed main.kinds said

-- this holds of what the first two documents say
pub record HoldsOfTwo (request : Request) (documents : List Parsed) (Holds : Said → Said → Type 0) : Type 0 where
  pub first : Said
  pub second : Said
  pub says_first : SaysAt request documents 0 first
  pub says_second : SaysAt request documents 1 second
  pub holds : Holds first second
