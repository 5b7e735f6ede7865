-- What comes of reading documents from a shelf.
use Rattle.std.specs.Prelude.{◌≡◌, ◌<◌, ℕ, IsTrue, List, Option, None, Some, length, slice_get}
use Rattle.owl_port.specs.Outside.{SameElsewhere}
use Rattle.owl_reader.specs.declared.fault.ReadFault.{ReadFault}
use Rattle.owl_reader.specs.declared.fault.ReadFault.TheVariants as read
use Rattle.rdf_scans.specs.declared.fault.OutlineFault.{OutlineFault}
use Rattle.rdf_scans.specs.declared.fault.OutlineFault.TheVariants as outline
use Rattle.owl_canon.specs.declared.fault.CanonFault.{CanonFault}
use Rattle.owl_canon.specs.declared.fault.CanonFault.TheVariants as canon
use Rattle.owl_command.specs.Commands.{Request, Source, names_of, sources_of}
use Rattle.owl_port.specs.declared.whole.ReadFault as port
use Rattle.owl_port.specs.declared.whole.ReadFault.TheVariants as pf
use Rattle.owl_documents.specs.Documents.{AreFew, Contents, IsDefect, IsFirstRefused, IsRead, IsRefused, IsRefusedAt, Parsed, Reads, parsed_of, syntax_of, IsProperRefusal}
use Rattle.owl_documents.specs.Shelves.{IsFaulty, IsFirstFaulty, IsFrontTaken, Rises, Shelves}
use Rattle.owl_documents.specs.declared.document.Syntax.{Syntax}
use Rattle.owl_documents.specs.declared.reading.Read.{Read}
use Rattle.owl_documents.specs.declared.trouble.Refusal.{Refusal}
use Rattle.owl_documents.specs.declared.trouble.Refusal.TheVariants.{DocumentBytes, AllBytes, Unreadable, Headless, NotCanon}
use Rattle.owl_documents.specs.declared.trouble.Stop.{Stop}
use Rattle.owl_documents.specs.declared.trouble.Trouble.{Trouble}
use Rattle.owl_documents.specs.declared.trouble.Trouble.TheVariants.{ReadFailed, Refused, Memory}

-- what comes of a refusal of the reader
abbrev pub trouble_of : ReadFault → Trouble
trouble_of read.Memory = Memory
trouble_of (read.Refused item at reason) = Refused (Unreadable (read.Refused item at reason))
trouble_of read.TooLong = Refused (Unreadable read.TooLong)
trouble_of read.TooDeep = Refused (Unreadable read.TooDeep)
trouble_of read.TooHeavy = Refused (Unreadable read.TooHeavy)
trouble_of read.NumberTooLarge = Refused (Unreadable read.NumberTooLarge)
trouble_of read.TooMany = Refused (Unreadable read.TooMany)

-- and what comes of a graph that gives no head
abbrev pub trouble_of_header : OutlineFault → Trouble
trouble_of_header outline.Memory = Memory
trouble_of_header outline.NoHeader = Refused (Headless outline.NoHeader)
trouble_of_header outline.TwoHeaders = Refused (Headless outline.TwoHeaders)
trouble_of_header (outline.BadHeader node) = Refused (Headless (outline.BadHeader node))

-- and what comes of bytes that are not canonical
abbrev pub trouble_of_bytes : CanonFault → Trouble
trouble_of_bytes canon.NotCanon = Refused NotCanon
trouble_of_bytes canon.Memory = Memory

-- a reader was fed all that is there, so many bytes
pub record IsFed (Fed : List ℕ → Type 0) (there : Option (List ℕ)) (size : ℕ) : Type 0 where
  pub bytes : List ℕ
  pub are : there ≡ Some bytes
  pub count : size ≡ length bytes
  pub read : Fed bytes

-- Bytes are taken from this document alone.
pub record IsTakenAlone (name : List ℕ) (s : Shelves) : Type 0 where
  pub taken : IsTrue s.tells → IsFrontTaken (s.old name) (s.new name)
  pub others : IsTrue s.tells → SameElsewhere name s.old s.new
  pub counts : SameElsewhere name s.faults s.later

-- more than so many bytes are there
pub record IsLonger (there : Option (List ℕ)) (room : ℕ) : Type 0 where
  pub bytes : List ℕ
  pub are : there ≡ Some bytes
  pub more : room < length bytes

-- a refusal by the number of bytes
abbrev pub IsLimit : Refusal → Type 0
IsLimit DocumentBytes = Unit {0}
IsLimit AllBytes = Unit {0}
IsLimit (Unreadable fault) = ⊥
IsLimit (Headless fault) = ⊥
IsLimit NotCanon = ⊥

-- Why a document is not fed whole, behind so many bytes of others.
pub data IsTroubleOfShelf (before : ℕ) (fault : port.ReadFault) (trouble : Trouble) : Type 0 where
  failed : fault ≡ pf.Failed → trouble ≡ ReadFailed → IsTroubleOfShelf before fault trouble
  too_long : (refusal : Refusal) → fault ≡ pf.TooLong → IsLimit refusal → ((source : Source) (bytes : List ℕ) → (AreFew before (length bytes) → ⊥) → IsRefused before source bytes refusal) → trouble ≡ Refused refusal → IsTroubleOfShelf before fault trouble
  no_memory : trouble ≡ Memory → IsTroubleOfShelf before fault trouble

-- as each refusal is that is told
abbrev pub IsProper : Trouble → Type 0
IsProper trouble = (refusal : Refusal) → trouble ≡ Refused refusal → IsProperRefusal refusal

-- what a document was read as, behind so many bytes of others
pub record IsReadAs (contents : Contents) (before : ℕ) (source : Source) (read : Read) : Type 0 where
  pub bytes : List ℕ
  pub is : IsRead contents before source bytes (parsed_of read.document)
  pub size : read.size ≡ length bytes

-- Bytes that are refused so against this base IRI, if any, under each name of this syntax, where they are refused.
abbrev pub IsDefectAgainst : Option (List ℕ) → Syntax → List ℕ → Trouble → Type 0
IsDefectAgainst base syntax bytes trouble =
    (refusal : Refusal) → trouble ≡ Refused refusal → (name : List ℕ) → syntax_of name ≡ syntax → IsDefect base name bytes refusal

-- the same without a base IRI
abbrev pub IsDefectUnder : Syntax → List ℕ → Trouble → Type 0
IsDefectUnder syntax bytes trouble = IsDefectAgainst None syntax bytes trouble

-- Bytes that are read so against this base IRI, if any, under each name of this syntax.
abbrev pub AreReadAgainst : Option (List ℕ) → Syntax → List ℕ → Parsed → Type 0
AreReadAgainst base syntax bytes parsed = (name : List ℕ) → syntax_of name ≡ syntax → Reads base name bytes parsed

-- the same without a base IRI
abbrev pub AreReadUnder : Syntax → List ℕ → Parsed → Type 0
AreReadUnder syntax bytes parsed = AreReadAgainst None syntax bytes parsed

-- a refusal is the document's
abbrev pub IsTroubleOf : Contents → ℕ → Source → Trouble → Type 0
IsTroubleOf contents before source trouble =
    (refusal : Refusal) → trouble ≡ Refused refusal → IsRefusedAt contents source refusal before

-- Why reading stops: the first of the documents that is refused or could not be read, or want of memory.
pub data IsStop (request : Request) (s : Shelves) (stop : Stop) : Type 0 where
  of_refusal : (source : Source) → slice_get (sources_of request) stop.document ≡ Some source → (refusal : Refusal) → stop.trouble ≡ Refused refusal → IsProperRefusal refusal → (IsTrue s.tells → IsFirstRefused s.old (sources_of request) source refusal) → IsStop request s stop
  of_failure : (source : Source) → slice_get (sources_of request) stop.document ≡ Some source → stop.trouble ≡ ReadFailed → IsFaulty (Rises s) request source.name → (IsTrue s.tells → IsFirstFaulty s.old (Rises s) request source) → IsStop request s stop
  of_no_memory : stop.document < length (names_of request) → stop.trouble ≡ Memory → IsStop request s stop
