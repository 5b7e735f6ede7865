use Rattle.fss_acts.proofs.Heads.{version_named}
use Rattle.fss_acts.proofs.assembler.Assembler.name_version.Goals as goal

pub iri_behind-requires-clause-stands : goal.iri_behind-requires-clause-stands
iri_behind-requires-clause-stands c = c.requires.coming.stands c.requires.may.ready.2

pub returns : goal.returns
returns c =
    version_named c.args.self.now c.head.new.self c.take-name.result c.take-name.new.self c.args.next.now c.in_ok-version.version c.in_ok-version.ensures.comes c.in_ok-version.ensures.iri c.take-name.ensures.value c.take-name.ensures.after c.head.ensures
