-- What is told of a document that says nothing is a refusal.
use Rattle.std.proofs.Common.{◌≡◌, ◌≢◌, ◌⊎◌, inl, inr, ℕ, List, refl}
use Rattle.man_resolve.specs.declared.fault.ResolveFault.{ResolveFault}
use Rattle.man_resolve.specs.declared.fault.ResolveFault.TheVariants as resolve
use Rattle.owl_command.specs.declared.status.Status.TheVariants.{Document as NoDocument, Limit}
use Rattle.owl_messages.specs.Outcome.{Outcome, frames_outcome, graph_outcome, refused}
use Rattle.owl_messages.specs.Unsaid.{IsProperFault, unsaid_outcome}
use Rattle.owl_messages.specs.declared.unsaid.UnsaidFault.{UnsaidFault}
use Rattle.owl_messages.specs.declared.unsaid.UnsaidFault.TheVariants.{Graph, Frames, Memory}
use Rattle.rdf_reverse.specs.declared.fault.ReverseFault.{ReverseFault}
use Rattle.rdf_reverse.specs.declared.fault.ReverseFault.TheVariants as reverse

-- A document is wrong, or passes a limit: a line is told, and nothing else.
abbrev pub IsRefusal : Outcome → Type 0
IsRefusal o = (o ≡ refused NoDocument o.line) ⊎ (o ≡ refused Limit o.line)

graph_is_refused : (name : List ℕ) (fault : ReverseFault) → fault ≢ reverse.Memory → IsRefusal (graph_outcome name fault)
graph_is_refused name (reverse.TwoKinds iri) n = inl refl
graph_is_refused name reverse.NoHeader n = inl refl
graph_is_refused name reverse.TwoHeaders n = inl refl
graph_is_refused name (reverse.BadHeader node) n = inl refl
graph_is_refused name (reverse.Mixed label) n = inl refl
graph_is_refused name (reverse.BadList label) n = inl refl
graph_is_refused name (reverse.Cycle label) n = inl refl
graph_is_refused name (reverse.BadNode label) n = inl refl
graph_is_refused name (reverse.MainMissing label) n = inl refl
graph_is_refused name (reverse.Reserved triple) n = inl refl
graph_is_refused name (reverse.Orphan label) n = inl refl
graph_is_refused name (reverse.Untyped triple) n = inl refl
graph_is_refused name reverse.NumberTooLarge n = inr refl
graph_is_refused name reverse.TooDeep n = inr refl
graph_is_refused name reverse.TooHeavy n = inr refl
graph_is_refused name reverse.Memory n = absurd (n refl)

frames_are_refused : (name : List ℕ) (fault : ResolveFault) → fault ≢ resolve.Memory → IsRefusal (frames_outcome name fault)
frames_are_refused name (resolve.TwoKinds iri) n = inl refl
frames_are_refused name (resolve.Untyped iri at) n = inl refl
frames_are_refused name (resolve.WrongKind iri at) n = inl refl
frames_are_refused name (resolve.WrongForm at) n = inl refl
frames_are_refused name resolve.TooDeep n = inr refl
frames_are_refused name resolve.TooHeavy n = inr refl
frames_are_refused name resolve.Memory n = absurd (n refl)

pub unsaid_is_refused : (name : List ℕ) (fault : UnsaidFault) → IsProperFault fault → IsRefusal (unsaid_outcome name fault)
unsaid_is_refused name (Graph fault) n = graph_is_refused name fault n
unsaid_is_refused name (Frames fault) n = frames_are_refused name fault n
unsaid_is_refused name Memory n = absurd n
