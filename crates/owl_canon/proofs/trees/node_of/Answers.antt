use Rattle.std.proofs.Common.{◌∙◌}
use Rattle.owl_canon.proofs.Reading.{here}
use Rattle.rdf_normal.proofs.Extending.{made_here}
use Rattle.owl_canon.proofs.trees.node_of.Goals as goal

pub returns-in-Ok-clause-here : goal.returns-in-Ok-clause-here
returns-in-Ok-clause-here c = here _ _ _ _ (made_here _ _ _ _ c.in-Ok.ensures.added c.in-Ok.ensures.id)

pub returns-in-Ok-clause-found : goal.returns-in-Ok-clause-found
returns-in-Ok-clause-found c = λ shaped deep heavy e.
    (made_here _ _ _ _ c.in-Ok.ensures.added c.in-Ok.ensures.id).tree ∙ e
