use Rattle.std.proofs.Common.{◌≡◌, take}
use Rattle.dl_rules.specs.Properties.{leads}
use Rattle.owl_arena.specs.Held.{trees_at}
use Rattle.property_hierarchy.specs.Numbers.{numbered_pairs}
use Rattle.property_hierarchy.proofs.steps.steps_by.Given as goal

abbrev pub invariant-axioms : goal.invariant-axioms
invariant-axioms l = l.steps.items ≡ numbered_pairs l.arena.trees (leads (trees_at l.arena.trees (take l.id-index l.axioms)))
