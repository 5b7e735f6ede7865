use Rattle.rdf_nodes.proofs.Finding.{named_none}
use Rattle.rdf_nodes.proofs.Steps.{named_is}
use Rattle.rdf_nodes.proofs.source.Source.named.Goals as goal

pub returns-in_ok-copy-in-Iri : goal.returns-in_ok-copy-in-Iri
returns-in_ok-copy-in-Iri c =
    named_is c.args.self.now.kinds.now c.args.kind c.args.tag c.args.term.now c.in-Iri.iri c.in_ok-copy-in-Iri.field-0 c.in-Iri.is
    (c.has.ensures.0 c.if-not-has.false) (c.in_ok-copy-in-Iri.ensures)

pub returns-then-not-has : goal.returns-then-not-has
returns-then-not-has c =
    named_none c.args.self.now.kinds.now c.args.kind c.args.tag c.args.term.now c.in-Iri.iri c.in-Iri.is
    (λ has. let is = c.has.ensures.1 has in let isnt = c.if-not-has.true in cc)
