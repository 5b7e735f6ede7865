use Rattle.std.proofs.Common.{◌↔◌, subst, sym}
use Rattle.std.specs.Prelude.{IsTrue}
use Rattle.rdf_faults.specs.Formed.{IsFormedAs}
use Rattle.rdf_roles.proofs.NodeForms.{facet_formed, note_formed}
use Rattle.rdf_roles.proofs.forms.is_formed.Goals as goal

pub returns-in-Facet : goal.returns-in-Facet
returns-in-Facet c g x seen no_cell =
    subst (λ r. IsTrue c.is_facet.result ↔ IsFormedAs g r x) (sym c.in-Facet.is) (facet_formed g x c.args.triples.now seen.about c.is_facet.result c.is_facet.ensures)

pub returns-in-Note : goal.returns-in-Note
returns-in-Note c g x seen no_cell =
    subst (λ r. IsTrue c.is_reification.result ↔ IsFormedAs g r x) (sym c.in-Note.is)
    (note_formed g x c.args.triples.now seen.about c.is_reification.result c.is_reification.ensures)
