-- Which fault of a token comes of what was found below.
use Rattle.owl_atom.specs.declared.fault.DeclareFault.{DeclareFault}
use Rattle.owl_atom.specs.declared.fault.DeclareFault.TheVariants as declare
use Rattle.rdf_terms.specs.declared.fault.LiteralFault.{LiteralFault}
use Rattle.rdf_terms.specs.declared.fault.LiteralFault.TheVariants as literal
use Rattle.owl_maker.specs.declared.fault.MakeFault.{MakeFault}
use Rattle.owl_maker.specs.declared.fault.MakeFault.TheVariants as make
use Rattle.owl_reader.specs.declared.fault.Reason.TheVariants.{BadLiteral, EmptyKey, PrefixFixed, PrefixTwice}
use Rattle.owl_reader.specs.declared.fault.TokenFault.{TokenFault}
use Rattle.owl_reader.specs.declared.fault.TokenFault.TheVariants.{Defect, Memory, TooDeep, TooHeavy}

abbrev pub of_making : MakeFault → TokenFault
of_making make.TooDeep = TooDeep
of_making make.TooHeavy = TooHeavy
of_making make.EmptyKey = Defect EmptyKey
of_making make.Memory = Memory

abbrev pub of_declaring : DeclareFault → TokenFault
of_declaring declare.PrefixTwice = Defect PrefixTwice
of_declaring declare.PrefixFixed = Defect PrefixFixed
of_declaring declare.Memory = Memory

abbrev pub of_literal : LiteralFault → TokenFault
of_literal literal.BadLiteral = Defect BadLiteral
of_literal literal.Memory = Memory
