use Rattle.std.proofs.Common.{◌≡◌, take}
use Rattle.dl_rules.specs.Hierarchy.{below_over}
use Rattle.property_hierarchy.specs.Numbers.{inverse_number}
use Rattle.property_hierarchy.proofs.chains.below_over.Given as goal

abbrev pub invariant-properties : goal.invariant-properties
invariant-properties l = l.pairs.items ≡ below_over inverse_number l.implied (take l.p-index l.ps)
