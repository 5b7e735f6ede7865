use Rattle.std.proofs.Common.{ap, ◌∙◌}
use Rattle.rdf_asked.specs.Sorts.{takes_all_iris}
use Rattle.rdf_asked.proofs.OfSort.{by_kind, iri_of_sort}
use Rattle.rdf_asked.proofs.sorts.names_tree.Goals as goal

pub returns-in-Some : goal.returns-in-Some
returns-in-Some c g =
    c.has_kind.ensures ∙ ap (λ o. by_kind c.args.kinds.now o (takes_all_iris c.args.sort) c.args.iri.now) c.in-Some.ensures
    ∙ iri_of_sort g c.args.kinds.now c.args.sort c.args.iri.now

pub returns-in-None : goal.returns-in-None
returns-in-None c g =
    c.takes_all_iris.ensures ∙ ap (λ o. by_kind c.args.kinds.now o (takes_all_iris c.args.sort) c.args.iri.now) c.in-None.ensures
    ∙ iri_of_sort g c.args.kinds.now c.args.sort c.args.iri.now
