use Rattle.owl_doc.proofs.Declaring.{adds_one}
use Rattle.man_resolve.proofs.declarations.declare.Goals as goal

pub returns-in_ok-declare-clause-ok : goal.returns-in_ok-declare-clause-ok
returns-in_ok-declare-clause-ok c =
    adds_one c.args.kinds.now c.declare.new.self _ (record { kind = c.in-Some.kind; iri = c.in-Some.iri.now }) c.in_ok-copy.copy c.in-Some.ensures c.in_ok-copy.ensures c.in_ok-declare.ensures.ok
