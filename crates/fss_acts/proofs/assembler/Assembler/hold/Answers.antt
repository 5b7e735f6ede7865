use Rattle.fss_acts.proofs.Begun.{iri_held}
use Rattle.fss_acts.proofs.assembler.Assembler.hold.Goals as goal

pub iri_behind-requires-clause-stands : goal.iri_behind-requires-clause-stands
iri_behind-requires-clause-stands c = c.requires.coming.stands c.requires.may.ready.1

pub returns : goal.returns
returns c =
    iri_held c.args.self.now c.is_full.result c.args.next.now c.in_ok-iri.iri c.in_ok-iri.ensures.comes c.in_ok-iri.ensures.iri c.is_full.ensures c.if-is_full.false
