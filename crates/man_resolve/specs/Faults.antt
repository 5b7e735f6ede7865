-- Why an ontology is not assembled.
use Rattle.owl_assembly.specs.declared.fault.AssembleFault.{AssembleFault}
use Rattle.owl_assembly.specs.declared.fault.AssembleFault.TheVariants as assemble
use Rattle.man_resolve.specs.declared.fault.ResolveFault.{ResolveFault}
use Rattle.man_resolve.specs.declared.fault.ResolveFault.TheVariants.{TooHeavy, Memory}

abbrev pub assemble_fault : AssembleFault → ResolveFault
assemble_fault assemble.TooHeavy = TooHeavy
assemble_fault assemble.Memory = Memory
