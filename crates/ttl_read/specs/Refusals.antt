-- Refusals of what lies below, as faults of a token.
use Rattle.owl_atom.specs.declared.fault.ExpandFault.{ExpandFault}
use Rattle.owl_atom.specs.declared.fault.ExpandFault.TheVariants as expand
use Rattle.rdf_terms.specs.declared.fault.IriFault.{IriFault}
use Rattle.rdf_terms.specs.declared.fault.IriFault.TheVariants as iri
use Rattle.rdf_terms.specs.declared.fault.LabelFault.{LabelFault}
use Rattle.rdf_terms.specs.declared.fault.LabelFault.TheVariants as label
use Rattle.rdf_terms.specs.declared.fault.LiteralFault.{LiteralFault}
use Rattle.rdf_terms.specs.declared.fault.LiteralFault.TheVariants as literal
use Rattle.rdf_graph.specs.declared.fault.GraphFault.{GraphFault}
use Rattle.rdf_graph.specs.declared.fault.GraphFault.TheVariants as graph
use Rattle.owl_reader.specs.declared.fault.Reason.TheVariants.{BadIri, BadLiteral, NotHere, UnknownPrefix}
use Rattle.owl_reader.specs.declared.fault.TokenFault.{TokenFault}
use Rattle.owl_reader.specs.declared.fault.TokenFault.TheVariants.{Defect, Memory, TooMany}

abbrev pub of_resolving : IriFault → TokenFault
of_resolving iri.BadIri = Defect BadIri
of_resolving iri.Memory = Memory

abbrev pub of_expanding : ExpandFault → TokenFault
of_expanding expand.UnknownPrefix = Defect UnknownPrefix
of_expanding expand.Memory = Memory

abbrev pub of_literal : LiteralFault → TokenFault
of_literal literal.BadLiteral = Defect BadLiteral
of_literal literal.Memory = Memory

abbrev pub of_label : LabelFault → TokenFault
of_label label.BadLabel = Defect NotHere
of_label label.Memory = Memory

abbrev pub of_graph : GraphFault → TokenFault
of_graph graph.TooMany = TooMany
of_graph graph.Memory = Memory
