use Rattle.fss_acts.proofs.Begun.{iri_begun}
use Rattle.fss_acts.proofs.assembler.Assembler.begin_iri.Goals as goal

pub iri_behind-requires-clause-stands : goal.iri_behind-requires-clause-stands
iri_behind-requires-clause-stands c = c.requires.coming.stands c.requires.may.ready.1

pub returns : goal.returns
returns c =
    iri_begun c.args.self.now c.put_leaf.new.maker c.put_leaf.result c.args.tag c.args.next.now c.in_ok-iri.iri c.requires.row c.in_ok-iri.ensures.comes c.in_ok-iri.ensures.iri c.put_leaf.ensures
