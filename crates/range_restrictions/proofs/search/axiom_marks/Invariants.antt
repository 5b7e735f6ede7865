use Rattle.std.proofs.Common.{◌≡◌, ◌++◌, drop, map}
use Rattle.owl_arena.specs.Held.{trees_at}
use Rattle.range_restrictions.specs.Found.{spread}
use Rattle.range_restrictions.specs.Statements.{is_chain}
use Rattle.range_restrictions.proofs.search.axiom_marks.Given as goal

abbrev pub invariant-axioms : goal.invariant-axioms
invariant-axioms l =
    spread (map is_chain (trees_at l.arena.trees l.axioms)) l.marks ≡ l.all.items ++ spread (map is_chain (trees_at l.arena.trees (drop l.id-index l.axioms))) l.rest
