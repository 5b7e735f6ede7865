use Rattle.fss_acts.proofs.Heads.{import_named}
use Rattle.fss_acts.proofs.assembler.Assembler.import.Goals as goal

pub iri_behind-requires-clause-stands : goal.iri_behind-requires-clause-stands
iri_behind-requires-clause-stands c = c.requires.coming.stands c.requires.may.ready.1

pub returns : goal.returns
returns c =
    import_named c.args.self.now c.import.new.self c.args.next.now c.in_ok-iri.iri c.in_ok-iri.ensures.comes c.in_ok-iri.ensures.iri c.in_ok-import.ensures.ok
