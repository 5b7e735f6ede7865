use Rattle.rdf_scans.proofs.Gathering.{none_gathered}
use Rattle.rdf_scans.proofs.Passed.{one_left}
use Rattle.rdf_scans.proofs.header.iris_at.Goals as goal

pub returns-in-None : goal.returns-in-None
returns-in-None c =
    let ts = c.args.triples.now in
    let index = c.triples.triple-index in
    let t = c.triple-item.result in
    none_gathered c.args.word ts c.triples.iris.items index t _ c.triples.invariant (one_left c.args.word ts index t c.triples-test.true c.triple-item.is c.if-carries.ensures) c.in-None.ensures
