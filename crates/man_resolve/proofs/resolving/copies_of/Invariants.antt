use Rattle.std.proofs.Common.{◌≡◌, take}
use Rattle.man_resolve.proofs.resolving.copies_of.Given as goal

abbrev pub invariant-iris : goal.invariant-iris
invariant-iris l = l.copies.items ≡ take l.iri-index l.iris
