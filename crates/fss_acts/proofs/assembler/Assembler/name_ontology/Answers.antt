use Rattle.fss_acts.proofs.Heads.{ontology_named}
use Rattle.fss_acts.proofs.assembler.Assembler.name_ontology.Goals as goal

pub iri_behind-requires-clause-stands : goal.iri_behind-requires-clause-stands
iri_behind-requires-clause-stands c = c.requires.coming.stands c.requires.may.ready.1

pub returns : goal.returns
returns c =
    ontology_named c.args.self.now c.head.new.self c.in_ok-name.name c.args.next.now c.in_ok-iri.iri c.in_ok-iri.ensures.comes c.in_ok-iri.ensures.iri c.in_ok-name.ensures c.head.ensures
