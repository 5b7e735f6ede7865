-- What a shelf tells before and after documents are read from it.
use Rattle.std.specs.Prelude.{◌≡◌, ◌≤◌, ◌+◌, ℕ, Bool, List, Option, length}
use Rattle.owl_characters.specs.Limit.{most_bytes}
use Rattle.owl_port.specs.Outside.{Rose, before}
use Rattle.owl_command.specs.Commands.{IsAmong, Request, Source, names_of, sources_of}
use Rattle.owl_documents.specs.Documents.{Contents, FollowsRead}

-- whether it tells at all, the bytes under each name, and the counts of faults
pub record Shelves : Type 0 where
  pub tells : Bool
  pub old : Contents
  pub new : Contents
  pub faults : List ℕ → ℕ
  pub later : List ℕ → ℕ

-- the count of faults of the name rose
abbrev pub Rises : Shelves → List ℕ → Type 0
Rises s name = Rose (s.faults name) (s.later name)

-- at most so many bytes of a document are taken, from its front
abbrev pub IsFrontTaken : Option (List ℕ) → Option (List ℕ) → Type 0
IsFrontTaken old new = (taken : List ℕ) × (length taken ≤ most_bytes + 1) × (old ≡ before taken new)

-- Bytes are taken from the documents that are asked for alone.
pub record IsTaken (request : Request) (old new : Contents) : Type 0 where
  pub taken : (name : List ℕ) → IsAmong (names_of request) name → IsFrontTaken (old name) (new name)
  pub others : (name : List ℕ) → (IsAmong (names_of request) name → ⊥) → new name ≡ old name

-- a document that is asked for, with a fault of its own
abbrev pub IsFaulty : (List ℕ → Type 0) → Request → List ℕ → Type 0
IsFaulty Rise request name = IsAmong (names_of request) name × Rise name

-- the same, where each document before it is read
abbrev pub IsFirstFaulty : Contents → (List ℕ → Type 0) → Request → Source → Type 0
IsFirstFaulty contents Rise request source = FollowsRead contents (λ _. Rise source.name) 0 (sources_of request) source
