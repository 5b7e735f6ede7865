use Rattle.std.proofs.Common.{ap, ◌∙◌}
use Rattle.std.specs.Option.{is_some}
use Rattle.rdf_asked.proofs.OfSort.{number_is}
use Rattle.rdf_asked.proofs.sorts.is_number.Goals as goal

pub returns : goal.returns
returns c = c.is_some.ensures ∙ ap is_some c.cardinality_of.ensures ∙ number_is c.args.term.now
