use Rattle.rdf_meaning.proofs.KindLaws.{has_kind_is}
use Rattle.rdf_meaning.specs.Kinds.{has_kind}
use Rattle.std.specs.Bool.{one_answer}
use Rattle.rdf_asked.proofs.sorts.has_kind.Goals as goal

pub returns : goal.returns
returns c =
    one_answer c.has.result (has_kind c.args.kinds.now c.args.kind c.args.iri.now) c.has.ensures (has_kind_is c.args.kinds.now c.args.kind c.args.iri.now)
