use Rattle.std.proofs.Common.{refl}
use Rattle.owl_tree.specs.Rows.{row_of}
use Rattle.fss_grammar.specs.declared.acts.Act.TheVariants.{Hold, ImportIri, OntologyIri, Typed, VersionIri}
use Rattle.fss_acts.proofs.Exits.{answers_as}
use Rattle.fss_acts.proofs.assembler.Assembler.perform.Goals as goal

pub held-requires-clause-row : goal.held-requires-clause-row
unfolding row_of
held-requires-clause-row c = refl

pub held-requires-in-HeldDatatype-clause-row : goal.held-requires-in-HeldDatatype-clause-row
unfolding row_of
held-requires-in-HeldDatatype-clause-row c = refl

pub returns-in-Typed : goal.returns-in-Typed
returns-in-Typed c = answers_as c.args.act Typed c.args.next.now c.args.self.now c.typed.new.self c.typed.result c.in-Typed.is c.typed.ensures

pub returns-in-Hold : goal.returns-in-Hold
returns-in-Hold c = answers_as c.args.act Hold c.args.next.now c.args.self.now c.hold.new.self c.hold.result c.in-Hold.is c.hold.ensures

pub returns-in-OntologyIri : goal.returns-in-OntologyIri
returns-in-OntologyIri c =
    answers_as c.args.act OntologyIri c.args.next.now c.args.self.now c.name_ontology.new.self c.name_ontology.result c.in-OntologyIri.is c.name_ontology.ensures

pub returns-in-VersionIri : goal.returns-in-VersionIri
returns-in-VersionIri c =
    answers_as c.args.act VersionIri c.args.next.now c.args.self.now c.name_version.new.self c.name_version.result c.in-VersionIri.is c.name_version.ensures

pub returns-in-ImportIri : goal.returns-in-ImportIri
returns-in-ImportIri c =
    answers_as c.args.act ImportIri c.args.next.now c.args.self.now c.import.new.self c.import.result c.in-ImportIri.is c.import.ensures
