-- What a run may answer, and what its status tells.
use Rattle.std.specs.Prelude.{◌≡◌, List, map}
use Rattle.owl_tree.specs.Ontologies.{Head, IsSameOntology}
use Rattle.owl_command.specs.declared.status.Status.{Status}
use Rattle.owl_command.specs.declared.status.Status.TheVariants.{Done, No, ReadFailed, WriteFailed, Memory}
use Rattle.owl_documents.specs.Documents.{Parsed, Said, head_in}
use Rattle.owl_messages.specs.Outcome.{Outcome, agreement, difference}

-- how documents are called, and what they import
abbrev pub heads_in : List Parsed → List Head
heads_in = map head_in

-- Whether two documents say the same.
pub data IsComparison (a b : Said) (outcome : Outcome) : Type 0 where
  agree : IsSameOntology a.ontology b.ontology → outcome ≡ agreement → IsComparison a b outcome
  differ : (IsSameOntology a.ontology b.ontology → ⊥) → outcome ≡ difference → IsComparison a b outcome

-- It is an answer, and there is no other one.
pub record IsTheOutcome (IsOne : Outcome → Type 0) (outcome : Outcome) : Type 0 where
  pub is : IsOne outcome
  pub only : (other : Outcome) → IsOne other → outcome ≡ other

-- neither a device failed nor memory ran out
abbrev pub IsSettled : Status → Type 0
IsSettled ReadFailed = ⊥
IsSettled WriteFailed = ⊥
IsSettled Memory = ⊥
IsSettled _ = Unit {0}

-- what was asked for was done, and the text was written
abbrev pub IsSuccess : Status → Type 0
IsSuccess Done = Unit {0}
IsSuccess No = Unit {0}
IsSuccess _ = ⊥

-- nothing is written to the output
abbrev pub IsQuiet : Status → Type 0
IsQuiet Done = ⊥
IsQuiet No = ⊥
IsQuiet WriteFailed = ⊥
IsQuiet _ = Unit {0}
