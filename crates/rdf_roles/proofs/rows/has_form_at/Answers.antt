use Rattle.rdf_roles.proofs.ListLengths.{formed_at}
use Rattle.rdf_roles.proofs.rows.has_form_at.Goals as goal

pub returns-in-At : goal.returns-in-At
returns-in-At c g x r seen =
    formed_at g x c.args.triples.now c.args.part.now c.in-At.word c.all_have_form.result c.in-At.is seen.about (c.all_have_form.ensures g seen.table seen.lengths_are)
