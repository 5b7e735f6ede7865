use Rattle.std.proofs.Common.{◌↔◌, subst, sym}
use Rattle.std.specs.Prelude.{IsTrue}
use Rattle.rdf_faults.specs.Formed.{HasForm}
use Rattle.rdf_roles.proofs.wants.has_form.Goals as goal

pub returns-in-One : goal.returns-in-One
returns-in-One c g e are = subst (λ want. IsTrue c.has_form_of.result ↔ HasForm g want c.args.term.now) (sym c.in-One.is) (c.has_form_of.ensures g)
