use Rattle.sayable_parts.proofs.SearchLaws.{HoldsBefore}
use Rattle.owl_answer.specs.Typing.{IsWellTyped}
use Rattle.owl_answer.proofs.typing.untyped_axiom.Given as goal

abbrev pub invariant-axioms : goal.invariant-axioms
invariant-axioms l = HoldsBefore (IsWellTyped l.kinds) l.doc.arena.trees l.id-index l.id-items
