use Rattle.std.proofs.Common.{take}
use Rattle.std.specs.List.{AllByRecursion}
use Rattle.owl_close.specs.Imports.{heads_of}
use Rattle.owl_close.proofs.Lacking.{IsWhole}
use Rattle.owl_close.proofs.missing.refuse_missing.Given as goal

abbrev pub invariant-places : goal.invariant-places
invariant-places l = AllByRecursion (IsWhole (heads_of l.heads)) (take l.place-index l.places)
