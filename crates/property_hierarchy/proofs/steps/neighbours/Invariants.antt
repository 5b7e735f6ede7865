use Rattle.std.proofs.Common.{◌≡◌, take}
use Rattle.dl_rules.specs.Properties.{neighbours}
use Rattle.property_hierarchy.proofs.steps.neighbours.Given as goal

abbrev pub invariant-places : goal.invariant-places
invariant-places l = l.steps.items ≡ neighbours (take l.place l.ps)
