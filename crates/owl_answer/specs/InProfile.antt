-- Where an import closure is in a profile, for the contents of its documents.
use Rattle.std.specs.Prelude.{ℕ, List}
use Rattle.owl_breaches.specs.Sites.{Ontologies}
use Rattle.owl_command.specs.Commands.{Request, sources_of}
use Rattle.owl_command.specs.declared.command.Profile.{Profile}
use Rattle.owl_documents.specs.Documents.{AreRead, Contents, Parsed}
use Rattle.owl_answer.specs.Checks.{IsImportClosure, IsIn}
use Rattle.owl_answer.specs.Guessing.{AreGuessed}
use Rattle.owl_answer.specs.Runs.{HasImports}

-- The documents are read, imports are there where they have to be, each document of the closure says something under the kinds
-- that they declare together, with the guesses that are asked for, and what they say is in the profile.
pub record IsInProfile (contents : Contents) (request : Request) (profile : Profile) : Type 0 where
  pub documents : List Parsed
  pub read : AreRead contents (sources_of request) documents
  pub imports : HasImports request documents
  pub guessed : List Parsed
  pub are_guessed : AreGuessed request documents guessed
  pub places : List ℕ
  pub closure : Ontologies
  pub is : IsImportClosure guessed places closure
  pub within : IsIn profile closure
