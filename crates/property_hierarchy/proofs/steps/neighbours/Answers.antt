use Rattle.std.proofs.Common.{false, rules, ap, ◌∙◌}
use Rattle.std.proofs.lemmas.List.{take_all}
use Rattle.dl_rules.specs.Properties.{neighbours}
use Rattle.property_hierarchy.proofs.Stepping.{neighbours_step, none_of_one}
use Rattle.property_hierarchy.proofs.steps.neighbours.Goals as goal

pub places-init : goal.places-init
places-init c = none_of_one c.args.ps.now _ c.new-steps.ensures.items

pub places-preserved : goal.places-preserved
places-preserved c =
    neighbours_step c.args.ps.now c.places.place (record { place = 0; inverted = false }) c.places.steps.items _ c.places.auto.place c.places-test.true c.places.invariant (search rules)

pub returns : goal.returns
returns c = c.places.invariant ∙ ap neighbours (take_all c.places.place c.args.ps.now c.places-test.false)
