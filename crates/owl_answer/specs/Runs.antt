-- What a run answers, for its words and the contents of its documents.
use Rattle.std.specs.Prelude.{◌≡◌, ◌<◌, ◌≤◌, ℕ, Some, List, ◌++◌, length, slice_get, take, codes}
use Rattle.owl_arena.specs.Shared.{heaviest}
use Rattle.owl_canon.specs.Limits.{ReadsCanonical}
use Rattle.owl_declare.specs.Needed.{AreNeeded, with_needs}
use Rattle.owl_kind.specs.Kinds.{Entity, IsFirstClash}
use Rattle.owl_tree.specs.Ontologies.{ontology_weight}
use Rattle.owl_close.specs.Imports.{IsFirstMissing, MissesNone}
use Rattle.fss_terms.specs.Functional.{ReadsFunctional}
use Rattle.owl_doc.specs.Parts.{Part}
use Rattle.sayable_parts.specs.Reasons.{Objection}
use Rattle.owl_command.specs.Commands.{AsksImports, Asks, HasNoCommand, IsAmong, Request, Source, compares, names_of, of_main, sources_of, tries}
use Rattle.owl_command.specs.declared.command.Action.{Action}
use Rattle.owl_command.specs.declared.command.Action.TheVariants.{Translate, Check, Show, Declare, Canon, Digest}
use Rattle.owl_command.specs.declared.command.Target.{Target as Syntax}
use Rattle.owl_command.specs.declared.command.Target.TheVariants.{Fss, Ttl, Omn}
use Rattle.owl_command.specs.declared.status.Status.{Status}
use Rattle.owl_command.specs.declared.status.Status.TheVariants.{Done, No, Words, Document as NoDocument, Limit, ReadFailed, WriteFailed, Memory}
use Rattle.owl_documents.specs.Documents.{AreRead, Contents, IsFirstRefused, Parsed, Said, a_graph, an_ontology, in_bytes, in_functional, the_frames, IsProperRefusal}
use Rattle.owl_documents.specs.declared.trouble.Refusal.{Refusal}
use Rattle.owl_messages.specs.declared.unsaid.UnsaidFault.{UnsaidFault}
use Rattle.owl_answer.specs.Outcome.{IsComparison, IsSettled, IsSuccess, IsTheOutcome, heads_in}
use Rattle.owl_messages.specs.Refusals.{two_kinds, undeclared, unsayable}
use Rattle.owl_messages.specs.Verdicts.{no_line, yes_line}
use Rattle.owl_answer.specs.Checks.{IsChecked}
use Rattle.owl_answer.specs.WithNeeds.{AreKnown, declared_said}
use Rattle.owl_answer.specs.Guessing.{AreGuessed}
use Rattle.owl_answer.specs.UnderKinds.{AllSay, HoldsOfMain, HoldsOfTwo, IsFirstUnsaid}
use Rattle.owl_answer.specs.ManchesterOutcome.{IsManchesterTranslation, ReadsForm, manchester_form}
use Rattle.owl_answer.specs.Trials.{IsTrialOutcome}
use Rattle.owl_answer.specs.TurtleOutcome.{HasNoClash, IsFunctionalTranslation, IsTurtleTranslation, ReadsSaid, canonical_said, turtle_form}
use Rattle.owl_messages.specs.Outcome.{IsLimited, Outcome, canonical, counts_line, declared, digested, functional_form, missing_import, refusal_outcome, refused, shown, too_heavy_output, too_long_output, too_many_triples, told_with, translated, translation}
use Rattle.owl_messages.specs.Unsaid.{IsProperFault, unsaid_outcome}

-- The normal form that a syntax has for what a document says, where IRIs have these kinds.
abbrev pub normal_form : Syntax → List Entity → Said → Said
normal_form Fss kinds said = functional_form said
normal_form (Ttl layout) kinds said = turtle_form (canonical_said said)
normal_form Omn kinds said = manchester_form kinds (canonical_said said)

-- where each import has to be there, it is
abbrev pub HasImports : Request → List Parsed → Type 0
HasImports request documents = AsksImports request → MissesNone (heads_in documents)

-- What becomes of the main document where it is translated, by what it says under these kinds. What is written in Functional-Style Syntax
-- is translated to it as it is.
abbrev pub IsTranslation : Syntax → Parsed → List Entity → Said → Outcome → Type 0
IsTranslation Fss (an_ontology in_functional said) kinds main outcome = IsLimited (λ wanted. wanted ≡ translation main) outcome
IsTranslation Fss (an_ontology in_bytes said) kinds main outcome = IsFunctionalTranslation kinds main outcome
IsTranslation Fss (a_graph read) kinds main outcome = IsFunctionalTranslation kinds main outcome
IsTranslation Fss (the_frames d) kinds main outcome = IsFunctionalTranslation kinds main outcome
IsTranslation (Ttl layout) parsed kinds main outcome = IsTurtleTranslation layout kinds main outcome
IsTranslation Omn parsed kinds main outcome = IsManchesterTranslation kinds main outcome

-- It is one of these, whose line is told so where it is a success.
pub record IsToldWith (told_so : List ℕ → List ℕ) (IsOne : Outcome → Type 0) (outcome : Outcome) : Type 0 where
  pub wanted : Outcome
  pub is : IsOne wanted
  pub told : outcome ≡ told_with told_so wanted

-- What becomes of the main document in canonical form where it is translated with the declarations that it needs: an IRI has two kinds then,
-- it has too many nodes and leaves, or what becomes of it with these, as of a document in Functional-Style Syntax.
pub data IsDeclaration (target : Syntax) (kinds : List Entity) (main : Said) (outcome : Outcome) : Type 0 where
  clashes : (needs : List Entity) → AreNeeded kinds main.ontology needs → (iri : List ℕ) → IsFirstClash (kinds ++ needs) iri → outcome ≡ two_kinds iri → IsDeclaration target kinds main outcome
  heavy : (needs : List Entity) → AreNeeded kinds main.ontology needs → HasNoClash (kinds ++ needs) → heaviest < ontology_weight (with_needs needs main.ontology) → outcome ≡ too_heavy_output → IsDeclaration target kinds main outcome
  declared_whole : (needs known : List Entity) → AreKnown kinds main needs known → HasNoClash (kinds ++ needs) → ontology_weight (with_needs needs main.ontology) ≤ heaviest →
      IsToldWith (declared (length needs)) (IsTranslation target (an_ontology in_functional (declared_said needs main)) known (declared_said needs main)) outcome → IsDeclaration target kinds main outcome

-- What becomes by an action of the main one of these documents, by what it says under these kinds. A check is of all that it reaches.
abbrev pub IsActionOutcome : Action → List Parsed → Parsed → List Entity → Said → Outcome → Type 0
IsActionOutcome (Translate target) documents parsed kinds main outcome = IsToldWith translated (IsTranslation target parsed kinds main) outcome
IsActionOutcome (Check profile) documents parsed kinds main outcome = IsChecked profile documents outcome
IsActionOutcome Show documents parsed kinds main outcome = IsLimited (λ wanted. wanted ≡ shown main) outcome
IsActionOutcome (Declare target) documents parsed kinds main outcome = IsDeclaration target kinds (canonical_said main) outcome
IsActionOutcome Canon documents parsed kinds main outcome = IsLimited (λ wanted. wanted ≡ canonical main) outcome
IsActionOutcome Digest documents parsed kinds main outcome = outcome ≡ digested main

-- What becomes of documents that all say something: of the main one, or of two. A trial has a document of its own.
abbrev pub AnswersWith : Request → List Parsed → Outcome → Type 0
AnswersWith (of_main action options names) documents outcome =
    HoldsOfMain (of_main action options names) documents (λ parsed kinds main. IsActionOutcome action documents parsed kinds main outcome)
AnswersWith (compares first second) documents outcome =
    HoldsOfTwo (compares first second) documents (λ a b. IsLimited (IsComparison a b) outcome)
AnswersWith (tries size) documents outcome = IsTrialOutcome size outcome

-- What is answered by what documents say: the first that says nothing, or what becomes of those that all say something.
pub data AnswersBy (request : Request) (documents : List Parsed) (outcome : Outcome) : Type 0 where
  says_nothing : (place : ℕ) (fault : UnsaidFault) (name : List ℕ) → IsFirstUnsaid request documents place fault → slice_get (names_of request) place ≡ Some name → outcome ≡ unsaid_outcome name fault → AnswersBy request documents outcome
  all_say : AllSay request documents → AnswersWith request documents outcome → AnswersBy request documents outcome

-- What becomes of documents that are read: an import is not there that has to be, or what is answered with the guesses that are asked for.
pub data Concludes (request : Request) (documents : List Parsed) (outcome : Outcome) : Type 0 where
  misses_import : AsksImports request → (place : ℕ) (iri name : List ℕ) → IsFirstMissing (heads_in documents) place iri → slice_get (names_of request) place ≡ Some name → outcome ≡ missing_import name iri → Concludes request documents outcome
  misses_none : HasImports request documents → (guessed : List Parsed) → AreGuessed request documents guessed → AnswersBy request guessed outcome → Concludes request documents outcome

-- What becomes of what is asked for, with these contents. Each document is read before imports are looked at.
pub data Becomes (contents : Contents) (request : Request) (outcome : Outcome) : Type 0 where
  not_read : (source : Source) (refusal : Refusal) → IsFirstRefused contents (sources_of request) source refusal → outcome ≡ refusal_outcome source.name refusal → Becomes contents request outcome
  all_read : (documents : List Parsed) → AreRead contents (sources_of request) documents → Concludes request documents outcome → Becomes contents request outcome

-- What a run answers: the words have no command, or they ask for something and the contents have what is looked at.
pub data IsOutcome (words : List (List ℕ)) (contents : Contents) (outcome : Outcome) : Type 0 where
  no_command : HasNoCommand words → outcome ≡ refused Words (codes "words\n") → IsOutcome words contents outcome
  of_request : (request : Request) → Asks words request → Becomes contents request outcome → IsOutcome words contents outcome

-- the line of an action's success
abbrev pub ActionLine : Action → Status → List ℕ → Type 0
ActionLine (Translate target) Done line = (axioms absorbed : ℕ) × (line ≡ translated (counts_line axioms absorbed))
ActionLine (Declare target) Done line = (added axioms absorbed : ℕ) × (line ≡ declared added (counts_line axioms absorbed))
ActionLine (Check profile) Done line = line ≡ yes_line profile
ActionLine (Check profile) No line = (breaches : ℕ) × (line ≡ no_line profile breaches)
ActionLine Show Done line = line ≡ codes "shown\n"
ActionLine Canon Done line = line ≡ codes "canonical\n"
ActionLine Digest Done line = line ≡ codes "digested\n"
ActionLine action status line = ⊥

-- the line of a success
abbrev pub SuccessLine : Request → Status → List ℕ → Type 0
SuccessLine (of_main action options names) status line = ActionLine action status line
SuccessLine (compares first second) Done line = line ≡ codes "same\n"
SuccessLine (compares first second) No line = line ≡ codes "different\n"
SuccessLine request status line = ⊥

-- The lines that one of the documents is refused with.
pub data IsRefusalLine (name : List ℕ) (status : Status) (line : List ℕ) : Type 0 where
  of_bytes : (refusal : Refusal) → IsProperRefusal refusal → status ≡ (refusal_outcome name refusal).status → line ≡ (refusal_outcome name refusal).line → IsRefusalLine name status line
  of_import : (iri : List ℕ) → status ≡ NoDocument → line ≡ (missing_import name iri).line → IsRefusalLine name status line
  of_saying : (fault : UnsaidFault) → IsProperFault fault → status ≡ (unsaid_outcome name fault).status → line ≡ (unsaid_outcome name fault).line → IsRefusalLine name status line

-- The ways in which a translation is refused whose main document is not well typed.
pub data IsIllTyped : Outcome → Type 0 where
  of_two_kinds : (iri : List ℕ) → IsIllTyped (two_kinds iri)
  of_undeclared : (part : Part) (e : Entity) → IsIllTyped (undeclared part e)

-- The ways in which a document is refused that a syntax can't say: by a part of it, or by what its normal form weighs.
pub data IsUnsayable : Outcome → Type 0 where
  of_part : (part : Part) (why : Objection) → IsUnsayable (unsayable part why)
  of_weight : IsUnsayable too_heavy_output

-- a translation
abbrev pub AsksTranslation : Request → Type 0
AsksTranslation (of_main (Translate target) options names) = Unit {0}
AsksTranslation request = ⊥

-- a translation with the declarations that are needed
abbrev pub AsksDeclarations : Request → Type 0
AsksDeclarations (of_main (Declare target) options names) = Unit {0}
AsksDeclarations request = ⊥

-- a translation to another syntax than Functional-Style Syntax, which can say all
abbrev pub AsksOtherSyntax : Request → Type 0
AsksOtherSyntax (of_main (Translate (Ttl layout)) options names) = Unit {0}
AsksOtherSyntax (of_main (Translate Omn) options names) = Unit {0}
AsksOtherSyntax (of_main (Declare (Ttl layout)) options names) = Unit {0}
AsksOtherSyntax (of_main (Declare Omn) options names) = Unit {0}
AsksOtherSyntax request = ⊥

-- a translation to Turtle
abbrev pub AsksTurtle : Request → Type 0
AsksTurtle (of_main (Translate (Ttl layout)) options names) = Unit {0}
AsksTurtle (of_main (Declare (Ttl layout)) options names) = Unit {0}
AsksTurtle request = ⊥

-- The lines of a status for what is asked for. A read fault names a document that has this cause, and a trial has the line of its outcome.
pub data LineFor (request : Request) (IsCause : List ℕ → Type 0) (status : Status) (line : List ℕ) : Type 0 where
  of_success : SuccessLine request status line → LineFor request IsCause status line
  of_refusal : (name : List ℕ) → IsAmong (names_of request) name → IsRefusalLine name status line → LineFor request IsCause status line
  of_typing : AsksTranslation request → (refusal : Outcome) → IsIllTyped refusal → status ≡ refusal.status → line ≡ refusal.line → LineFor request IsCause status line
  of_clash : AsksDeclarations request → (iri : List ℕ) → status ≡ (two_kinds iri).status → line ≡ (two_kinds iri).line → LineFor request IsCause status line
  of_declarations : AsksDeclarations request → status ≡ Limit → line ≡ too_heavy_output.line → LineFor request IsCause status line
  of_unsayable : AsksOtherSyntax request → (refusal : Outcome) → IsUnsayable refusal → status ≡ refusal.status → line ≡ refusal.line → LineFor request IsCause status line
  of_triples : AsksTurtle request → status ≡ Limit → line ≡ too_many_triples.line → LineFor request IsCause status line
  of_output : status ≡ Limit → line ≡ too_long_output.line → LineFor request IsCause status line
  of_trial : (size : ℕ) → request ≡ tries size → (outcome : Outcome) → IsTrialOutcome size outcome → IsSettled outcome.status → status ≡ outcome.status → line ≡ outcome.line → LineFor request IsCause status line
  of_read_fault : (name : List ℕ) → IsCause name → status ≡ ReadFailed → line ≡ codes "read: " ++ (name ++ codes "\n") → LineFor request IsCause status line
  of_write_fault : status ≡ WriteFailed → line ≡ codes "write\n" → LineFor request IsCause status line
  of_no_memory : status ≡ Memory → line ≡ codes "memory\n" → LineFor request IsCause status line

-- the lines of a status, for these words
pub data IsLine (words : List (List ℕ)) (IsCause : Request → List ℕ → Type 0) (status : Status) (line : List ℕ) : Type 0 where
  of_words : HasNoCommand words → status ≡ Words → line ≡ codes "words\n" → IsLine words IsCause status line
  of_memory : status ≡ Memory → line ≡ codes "memory\n" → IsLine words IsCause status line
  of_asked : (request : Request) → Asks words request → LineFor request (IsCause request) status line → IsLine words IsCause status line

-- the bytes are this in a syntax, under these kinds
abbrev pub ReadsIn : Syntax → List Entity → List ℕ → Said → Type 0
ReadsIn Fss kinds text said = ReadsFunctional text said.prefixes said.ontology
ReadsIn (Ttl layout) kinds text said = ReadsSaid kinds text said
ReadsIn Omn kinds text said = ReadsForm kinds text said

-- With the declarations that it needs the main document is written, and the text reads back to the normal form of that, under kinds that have
-- these too.
pub record IsDeclaredText (target : Syntax) (kinds : List Entity) (main : Said) (text : List ℕ) : Type 0 where
  pub needs : List Entity
  pub known : List Entity
  pub are : AreKnown kinds main needs known
  pub reads : ReadsIn target known text (normal_form target known (declared_said needs main))

-- What the text of an action is: that of a translation reads back to the normal form of what the main document says, under the same kinds, and
-- canonical bytes to what it says.
abbrev pub IsActionText : Action → List Entity → Said → List ℕ → Type 0
IsActionText (Translate target) kinds main text = ReadsIn target kinds text (normal_form target kinds main)
IsActionText (Check profile) kinds main text = Unit {0}
IsActionText Show kinds main text = Unit {0}
IsActionText (Declare target) kinds main text = IsDeclaredText target kinds (canonical_said main) text
IsActionText Canon kinds main text = ReadsCanonical text main.ontology
IsActionText Digest kinds main text = Unit {0}

-- the text is that of the action, by what the main document says
abbrev pub IsBack : Request → List Parsed → List ℕ → Type 0
IsBack (of_main action options names) documents text =
    HoldsOfMain (of_main action options names) documents (λ parsed kinds main. IsActionText action kinds main text)
IsBack (compares first second) documents text = Unit {0}
IsBack (tries size) documents text = Unit {0}

-- so it is with the guesses that are asked for
pub record IsBackWith (request : Request) (documents : List Parsed) (text : List ℕ) : Type 0 where
  pub guessed : List Parsed
  pub are : AreGuessed request documents guessed
  pub back : IsBack request guessed text

-- The documents are read, and the text of a translation reads back to the main one's normal form.
pub record IsReadBack (contents : Contents) (request : Request) (text : List ℕ) : Type 0 where
  pub documents : List Parsed
  pub read : AreRead contents (sources_of request) documents
  pub back : IsBackWith request documents text

-- The text of the answer follows what was there. A translation reads back to the same ontology.
pub record IsWritten (words : List (List ℕ)) (contents : Contents) (status : Status) (before after : List ℕ) : Type 0 where
  pub outcome : Outcome
  pub is : IsTheOutcome (IsOutcome words contents) outcome
  pub told : status ≡ outcome.status
  pub written : after ≡ before ++ outcome.text
  pub request : Request
  pub asks : Asks words request
  pub back : IsReadBack contents request outcome.text

-- A front of the text of a success follows what was there.
pub record IsFrontWritten (IsOne : Outcome → Type 0) (before after : List ℕ) : Type 0 where
  pub outcome : Outcome
  pub is : IsTheOutcome IsOne outcome
  pub success : IsSuccess outcome.status
  pub count : ℕ
  pub written : after ≡ before ++ take count outcome.text

-- The line of a status follows what was there. Where the outcome is known and neither a device failed nor memory ran
-- out, it is the outcome's.
pub record IsNoted (Line : List ℕ → Type 0) (IsOne : Outcome → Type 0) (status : Status) (before after : List ℕ) : Type 0 where
  pub line : List ℕ
  pub is : Line line
  pub noted : after ≡ before ++ line
  pub told : IsSettled status → (outcome : Outcome) × IsTheOutcome IsOne outcome × (status ≡ outcome.status) × (line ≡ outcome.line)

-- A front of this line follows what was there.
pub record IsFrontOfNote (Line : List ℕ → Type 0) (IsOne : Outcome → Type 0) (status : Status) (before after : List ℕ) : Type 0 where
  pub line : List ℕ
  pub whole : IsNoted Line IsOne status before (before ++ line)
  pub count : ℕ
  pub noted : after ≡ before ++ take count line

-- The same, where only the lines of the status are known.
pub record IsNotedAlone (Line : List ℕ → Type 0) (before after : List ℕ) : Type 0 where
  pub line : List ℕ
  pub is : Line line
  pub noted : after ≡ before ++ line

pub record IsFrontNoted (Line : List ℕ → Type 0) (before after : List ℕ) : Type 0 where
  pub line : List ℕ
  pub is : Line line
  pub count : ℕ
  pub noted : after ≡ before ++ take count line
