use Rattle.std.proofs.Common.{◌∙◌, sym}
use Rattle.man_resolve.proofs.BuildingLaws.{ends_in}
use Rattle.man_resolve.proofs.step.ends_in_data.Goals as goal

pub returns-in-Some : goal.returns-in-Some
returns-in-Some c = λ front t e. c.names_data.ensures ∙ ends_in c.args.steps.now c.in-Some.step.now (sym c.in-Some.ensures.value) front t e
