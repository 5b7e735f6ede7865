use Rattle.std.proofs.Common.{◌≡◌, ◌++◌, take}
use Rattle.breach_lists.specs.Adding.{marked_breaches}
use Rattle.breach_lists.proofs.adding.add_axioms.Given as goal

abbrev pub invariant-places : goal.invariant-places
invariant-places l = l.found.items ≡ l.fn.found.items ++ marked_breaches l.rule l.document (take l.place l.axioms) l.marks
