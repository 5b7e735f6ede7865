-- Why a document says nothing under kinds of names, and what is told of it.
use Rattle.std.specs.Prelude.{◌≢◌, ℕ, List, codes}
use Rattle.man_resolve.specs.declared.fault.ResolveFault.{ResolveFault}
use Rattle.man_resolve.specs.declared.fault.ResolveFault.TheVariants as resolve
use Rattle.owl_command.specs.declared.status.Status.TheVariants as status
use Rattle.owl_messages.specs.Outcome.{Outcome, frames_outcome, graph_outcome, refused}
use Rattle.owl_messages.specs.declared.unsaid.UnsaidFault.{UnsaidFault}
use Rattle.owl_messages.specs.declared.unsaid.UnsaidFault.TheVariants.{Graph, Frames, Memory}
use Rattle.rdf_reverse.specs.declared.fault.ReverseFault.{ReverseFault}
use Rattle.rdf_reverse.specs.declared.fault.ReverseFault.TheVariants as reverse

-- what is told of a document that says nothing
abbrev pub unsaid_outcome : List ℕ → UnsaidFault → Outcome
unsaid_outcome name (Graph fault) = graph_outcome name fault
unsaid_outcome name (Frames fault) = frames_outcome name fault
unsaid_outcome name Memory = refused status.Memory (codes "memory\n")

-- a fault that is no want of memory
abbrev pub IsProperFault : UnsaidFault → Type 0
IsProperFault (Graph fault) = fault ≢ reverse.Memory
IsProperFault (Frames fault) = fault ≢ resolve.Memory
IsProperFault Memory = ⊥

-- the fault of a graph, and that of frames
abbrev pub of_graph : ReverseFault → UnsaidFault
of_graph reverse.Memory = Memory
of_graph fault = Graph fault

abbrev pub of_frames : ResolveFault → UnsaidFault
of_frames resolve.Memory = Memory
of_frames fault = Frames fault
