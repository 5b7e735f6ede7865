-- Annotation properties that are guessed of the graphs of documents.
use Rattle.std.specs.Prelude.{◌≡◌, Bool, true, false, List, map}
use Rattle.owl_command.specs.Commands.{Request, compares, of_main, tries}
use Rattle.owl_documents.specs.Documents.{Parsed, a_graph, an_ontology, the_frames}
use Rattle.owl_kind.specs.Kinds.{Entity}
use Rattle.rdf_reverse.specs.Guesses.{guessed}
use Rattle.rdf_thin.specs.Thinned.{thinned}
use Rattle.owl_answer.specs.KindsAt.{AreClosureKinds}

-- the document, with those that are guessed of its graph where IRIs have these kinds
abbrev pub with_guesses : List Entity → Parsed → Parsed
with_guesses kinds (an_ontology written said) = an_ontology written said
with_guesses kinds (a_graph read) =
    a_graph (record { prefixes = read.prefixes; triples = read.triples; head = read.head; guessed = guessed (thinned read.triples) kinds })
with_guesses kinds (the_frames d) = the_frames d

-- the documents, each with its guesses under what is declared by those that the main one reaches
pub record AreWithGuesses (documents others : List Parsed) : Type 0 where
  pub kinds : List Entity
  pub declared : AreClosureKinds documents kinds
  pub are : others ≡ map (with_guesses kinds) documents

abbrev pub AreGuessedWhere : Bool → List Parsed → List Parsed → Type 0
AreGuessedWhere false documents others = others ≡ documents
AreGuessedWhere true documents others = AreWithGuesses documents others

-- The documents by which is answered what is asked for: with guesses where these are asked for, and else as they are read.
abbrev pub AreGuessed : Request → List Parsed → List Parsed → Type 0
AreGuessed (of_main action options names) documents others = AreGuessedWhere options.guess documents others
AreGuessed (compares first second) documents others = others ≡ documents
AreGuessed (tries size) documents others = others ≡ documents
