use Rattle.rdf_roles.proofs.ListLengths.{length_at, short_told}
use Rattle.rdf_roles.proofs.wants.is_short.Goals as goal

pub returns-in-Some : goal.returns-in-Some
returns-in-Some c g e are =
    short_told g c.args.term.now c.in-Some.length c.args.least
    (c.in-Some.ensures g e (λ number node is. length_at g c.args.lengths.now c.args.term.now number are node is))
