-- What is answered for documents that are read, and for what is asked of a shelf.
use Rattle.std.specs.Prelude.{◌≡◌, ◌++◌, ℕ, List, [], Option, None, Some, IsTrue, codes, slice_get}
use Rattle.std.specs.List.{AllByRecursion}
use Rattle.owl_kind.specs.Kinds.{Entity}
use Rattle.owl_kind.specs.Order.{AreOrdered}
use Rattle.owl_tree.specs.Ontologies.{Head, Ontology}
use Rattle.owl_close.specs.Imports.{IsFirstMissing}
use Rattle.owl_command.specs.Commands.{AsksImports, Request, Source, names_of}
use Rattle.owl_command.specs.declared.command.Action.{Action}
use Rattle.owl_command.specs.declared.command.Layout.{Layout}
use Rattle.owl_command.specs.declared.command.Target.{Target as Syntax}
use Rattle.owl_command.specs.declared.status.Status.{Status}
use Rattle.owl_command.specs.declared.status.Status.TheVariants.{Done, No, Words, Document as NoDocument, Target, Limit, ReadFailed, WriteFailed, Memory}
use Rattle.owl_documents.specs.Documents.{Contents, Parsed, Said, an_ontology, in_functional}
use Rattle.owl_documents.specs.Shelves.{IsFaulty, IsFirstFaulty, Rises, Shelves}
use Rattle.owl_answer.specs.KindsAt.{AreClosureKinds}
use Rattle.owl_answer.specs.ManchesterOutcome.{IsManchesterTranslation, ReadsForm, manchester_form}
use Rattle.owl_answer.specs.Outcome.{IsSettled, IsSuccess, IsTheOutcome}
use Rattle.owl_answer.specs.Runs.{AnswersBy, Becomes, Concludes, IsActionOutcome, IsActionText, IsBack, IsBackWith, IsReadBack, IsTranslation, LineFor, ReadsIn, normal_form}
use Rattle.owl_answer.specs.UnderKinds.{SaysUnder}
use Rattle.owl_answer.specs.TurtleOutcome.{IsTurtleTranslation, IsTyped, IsTypingRefusal, ReadsSaid, canonical_said, turtle_form}
use Rattle.owl_messages.specs.declared.answer.Answer.{Answer}
use Rattle.owl_answer.specs.declared.imports.Missing.{Missing}
use Rattle.owl_messages.specs.Outcome.{Outcome, declared, told_with}
use Rattle.owl_messages.specs.Answers.{outcome_of}

-- an import that has to be there, and is not
pub record IsMissingFor (request : Request) (heads : List Head) (missing : Missing) : Type 0 where
  pub asked : AsksImports request
  pub first : IsFirstMissing heads missing.document missing.iri

-- What is answered by what documents say, with its text.
pub record IsAnswerBy (request : Request) (documents : List Parsed) (outcome : Outcome) : Type 0 where
  pub answers : AnswersBy request documents outcome
  pub back : IsSuccess outcome.status → IsBack request documents outcome.text

-- What is answered for documents that are read.
pub record IsConclusion (request : Request) (documents : List Parsed) (outcome : Outcome) : Type 0 where
  pub concludes : Concludes request documents outcome
  pub back : IsSuccess outcome.status → IsBackWith request documents outcome.text

-- what becomes of the main document where it is translated, with its text
pub record IsTranslated (target : Syntax) (parsed : Parsed) (kinds : List Entity) (main : Said) (outcome : Outcome) : Type 0 where
  pub is : IsTranslation target parsed kinds main outcome
  pub back : IsSuccess outcome.status → ReadsIn target kinds outcome.text (normal_form target kinds main)

-- so it becomes of a document with the declarations that it needs, as of one in Functional-Style Syntax
pub record IsToldWhole (added : ℕ) (target : Syntax) (kinds : List Entity) (whole : Said) (outcome : Outcome) : Type 0 where
  pub ordered : AreOrdered kinds
  pub wanted : Outcome
  pub translated : IsTranslated target (an_ontology in_functional whole) kinds whole wanted
  pub told : outcome ≡ told_with (declared added) wanted

-- what becomes by an action of the main one of these documents, which says this under these kinds, with its text
pub record IsToldOfMain (action : Action) (documents : List Parsed) (parsed : Parsed) (kinds : List Entity) (main : Said) (outcome : Outcome) : Type 0 where
  pub is : IsActionOutcome action documents parsed kinds main outcome
  pub back : IsSuccess outcome.status → IsActionText action kinds main outcome.text

-- so it becomes of these documents, of which the main one is the first
pub record IsToldOf (action : Action) (documents : List Parsed) (outcome : Outcome) : Type 0 where
  pub parsed : Parsed
  pub there : slice_get documents 0 ≡ Some parsed
  pub kinds : List Entity
  pub declared : AreClosureKinds documents kinds
  pub main : Said
  pub says : SaysUnder kinds parsed main
  pub told : IsToldOfMain action documents parsed kinds main outcome

-- what becomes of a document of which a graph is written, and the text says its normal form
pub record IsInTurtle (layout : Layout) (kinds : List Entity) (main : Said) (outcome : Outcome) : Type 0 where
  pub is : IsTurtleTranslation layout kinds main outcome
  pub back : IsSuccess outcome.status → ReadsSaid kinds outcome.text (turtle_form (canonical_said main))

-- what becomes of a document that is written in frames, and the text says its normal form
pub record IsInManchester (kinds : List Entity) (main : Said) (outcome : Outcome) : Type 0 where
  pub is : IsManchesterTranslation kinds main outcome
  pub back : IsSuccess outcome.status → ReadsForm kinds outcome.text (manchester_form kinds (canonical_said main))

-- what is told where an ontology is not well typed, and else that it is
abbrev pub IsTyping : List Entity → Ontology → Option Answer → Type 0
IsTyping kinds o None = IsTyped kinds o
IsTyping kinds o (Some answer) = IsTypingRefusal kinds o (outcome_of answer)

-- the statuses that an answer may have
abbrev pub IsFound : Status → Type 0
IsFound Done = Unit {0}
IsFound No = Unit {0}
IsFound Words = ⊥
IsFound NoDocument = Unit {0}
IsFound Target = Unit {0}
IsFound Limit = Unit {0}
IsFound ReadFailed = Unit {0}
IsFound WriteFailed = ⊥
IsFound Memory = ⊥

-- a refusal has no text
abbrev pub HasNoText : Status → List ℕ → Type 0
HasNoText Done text = Unit {0}
HasNoText No text = Unit {0}
HasNoText Words text = text ≡ []
HasNoText NoDocument text = text ≡ []
HasNoText Target text = text ≡ []
HasNoText Limit text = text ≡ []
HasNoText ReadFailed text = text ≡ []
HasNoText WriteFailed text = text ≡ []
HasNoText Memory text = text ≡ []

-- what every answer is
pub record IsProper (outcome : Outcome) : Type 0 where
  pub found : IsFound outcome.status
  pub no_text : HasNoText outcome.status outcome.text

-- the line that is told when an answer is delivered with this status
abbrev pub delivered_line : Outcome → Status → List ℕ
delivered_line answer Done = answer.line
delivered_line answer No = answer.line
delivered_line answer Words = answer.line
delivered_line answer NoDocument = answer.line
delivered_line answer Target = answer.line
delivered_line answer Limit = answer.line
delivered_line answer ReadFailed = answer.line
delivered_line answer WriteFailed = codes "write\n"
delivered_line answer Memory = answer.line

-- the first document that is asked for with a fault of its own, each before it being read, has this name
abbrev pub IsFirstFaultyName : Contents → (List ℕ → Type 0) → Request → List ℕ → Type 0
IsFirstFaultyName contents Rise request name = (source : Source) × (source.name ≡ name) × IsFirstFaulty contents Rise request source

-- What is answered for what is asked.
pub record IsAnswered (request : Request) (s : Shelves) (outcome : Outcome) : Type 0 where
  pub judged : IsTrue s.tells → IsSettled outcome.status → IsTheOutcome (Becomes s.old request) outcome
  pub back : IsTrue s.tells → IsSuccess outcome.status → IsReadBack s.old request outcome.text
  pub proper : IsProper outcome
  pub line : LineFor request (IsFaulty (Rises s) request) outcome.status outcome.line
  pub first : IsTrue s.tells → LineFor request (IsFirstFaultyName s.old (Rises s) request) outcome.status outcome.line
  pub ended : IsTrue s.tells → IsSuccess outcome.status → AllByRecursion (λ name. s.new name ≡ Some []) (names_of request)

-- The text of the answer to what is asked follows what was there.
pub record IsWrittenFor (request : Request) (contents : Contents) (status : Status) (before after : List ℕ) : Type 0 where
  pub outcome : Outcome
  pub is : IsTheOutcome (Becomes contents request) outcome
  pub told : status ≡ outcome.status
  pub written : after ≡ before ++ outcome.text
  pub back : IsReadBack contents request outcome.text
