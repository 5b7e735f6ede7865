use Rattle.fss_acts.proofs.Keeping.{held_made}
use Rattle.fss_acts.proofs.assembler.Assembler.held.Goals as goal

pub returns : goal.returns
returns c =
    held_made c.args.self.now c.take_iri-iri.new.kept c.put_leaf.new.maker c.put_leaf.result c.args.tag c.take_iri-iri.result c.take_iri-iri.ensures.was c.take_iri-iri.ensures.now c.put_leaf.ensures
