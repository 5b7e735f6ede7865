use Rattle.std.proofs.Common.{◌≡◌, ◌++◌, take}
use Rattle.std.specs.List.{flat_map}
use Rattle.dl_rules.specs.Properties.{with_inverse}
use Rattle.property_hierarchy.specs.Numbers.{inverse_number}
use Rattle.property_hierarchy.proofs.composites.push_both.Given as goal

abbrev pub invariant-more : goal.invariant-more
invariant-more l = l.numbers.items ≡ l.fn.numbers.items ++ flat_map (with_inverse inverse_number) (take l.number-index l.more)
