use Rattle.std.proofs.Common.{sym, ◌∙◌}
use Rattle.std.proofs.lemmas.Bool.{both_ways}
use Rattle.rdf_scans.proofs.Marking.{number_is}
use Rattle.rdf_scans.proofs.reach.number_with_role.Goals as goal

pub returns-then-is_individual : goal.returns-then-is_individual
returns-then-is_individual c = λ number is.
    is.has_role (sym (c.role.ensures c.args.reading.now.graph.now c.requires.table) ∙ c.is_individual.ensures.0 c.if-is_individual.true)

pub returns-else-is_individual : goal.returns-else-is_individual
returns-else-is_individual c =
    let g = c.args.reading.now.graph.now in
    number_is g c.args.reading.now.roles.now c.requires.table c.args.label.now
    (λ e. both_ways c.is_individual.result c.if-is_individual.false (c.is_individual.ensures.1 (c.role.ensures g c.requires.table ∙ e)))
    c.number.result c.number.ensures
