use Rattle.std.proofs.Common.{ap, ◌∙◌}
use Rattle.rdf_scans.specs.Sorts.{is_axiom_site}
use Rattle.rdf_scans.proofs.Sorting.{site_tells}
use Rattle.rdf_scans.proofs.sorts.has_axiom_predicate.Goals as goal

pub returns : goal.returns
returns c = c.is_axiom_site.ensures ∙ ap is_axiom_site c.site_of.ensures ∙ site_tells c.args.triple.now
