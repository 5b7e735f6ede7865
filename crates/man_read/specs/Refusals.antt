-- Refusals of what lies below, as faults of a token.
use Rattle.owl_atom.specs.declared.fault.DeclareFault.{DeclareFault}
use Rattle.owl_atom.specs.declared.fault.DeclareFault.TheVariants as declare
use Rattle.owl_atom.specs.declared.fault.ExpandFault.{ExpandFault}
use Rattle.owl_atom.specs.declared.fault.ExpandFault.TheVariants as expand
use Rattle.owl_reader.specs.declared.fault.Reason.TheVariants.{PrefixFixed, PrefixTwice, UnknownPrefix}
use Rattle.owl_reader.specs.declared.fault.TokenFault.{TokenFault}
use Rattle.owl_reader.specs.declared.fault.TokenFault.TheVariants.{Defect, Memory}

abbrev pub of_expanding : ExpandFault → TokenFault
of_expanding expand.UnknownPrefix = Defect UnknownPrefix
of_expanding expand.Memory = Memory

abbrev pub of_declaring : DeclareFault → TokenFault
of_declaring declare.PrefixTwice = Defect PrefixTwice
of_declaring declare.PrefixFixed = Defect PrefixFixed
of_declaring declare.Memory = Memory
