use Rattle.std.proofs.Common.{ap, ◌∙◌}
use Rattle.rdf_asked.specs.Sorts.{is_declared_as}
use Rattle.rdf_asked.proofs.OfSort.{entity_is}
use Rattle.rdf_asked.proofs.sorts.is_entity.Goals as goal

pub returns : goal.returns
returns c =
    c.is_declared_as.ensures ∙ ap (λ kind. is_declared_as c.args.kinds.now kind c.args.iri.now) c.kind_of_entity.ensures
    ∙ entity_is c.args.kinds.now c.args.tag c.args.iri.now
