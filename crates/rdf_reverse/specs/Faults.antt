-- Why a graph says no ontology, by what is asked of it in turn.
use Rattle.std.specs.Prelude.{◌≡◌, ◌⊎◌, ℕ, List}
use Rattle.owl_kind.specs.Kinds.{Entity, IsFirstClash}
use Rattle.owl_assembly.specs.declared.fault.AssembleFault.{AssembleFault}
use Rattle.owl_assembly.specs.declared.fault.AssembleFault.TheVariants as assemble
use Rattle.rdf_roles.specs.declared.fault.NodeFault.{NodeFault}
use Rattle.rdf_roles.specs.declared.fault.NodeFault.TheVariants as node
use Rattle.rdf_scans.specs.declared.fault.OutlineFault.{OutlineFault}
use Rattle.rdf_scans.specs.declared.fault.OutlineFault.TheVariants as outline
use Rattle.rdf_reverse.specs.declared.fault.ReverseFault.{ReverseFault}
use Rattle.rdf_reverse.specs.declared.fault.ReverseFault.TheVariants.{TwoKinds, NoHeader, TwoHeaders, BadHeader, Mixed, BadList, Cycle, BadNode, TooHeavy, Memory}

abbrev pub outline_fault : OutlineFault → ReverseFault
outline_fault outline.NoHeader = NoHeader
outline_fault outline.TwoHeaders = TwoHeaders
outline_fault (outline.BadHeader x) = BadHeader x
outline_fault outline.Memory = Memory

abbrev pub node_fault : NodeFault → ReverseFault
node_fault (node.Mixed label) = Mixed label
node_fault (node.BadList label) = BadList label
node_fault (node.Cycle label) = Cycle label
node_fault (node.BadNode label) = BadNode label
node_fault node.Memory = Memory

abbrev pub assemble_fault : AssembleFault → ReverseFault
assemble_fault assemble.TooHeavy = TooHeavy
assemble_fault assemble.Memory = Memory

-- the first IRI with two kinds that no IRI may share, or want of memory
abbrev pub IsClashFault : List Entity → ReverseFault → Type 0
IsClashFault k f = (f ≡ Memory) ⊎ ((iri : List ℕ) × (f ≡ TwoKinds iri) × IsFirstClash k iri)
