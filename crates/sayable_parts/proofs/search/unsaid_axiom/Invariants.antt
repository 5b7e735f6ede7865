use Rattle.sayable_parts.specs.Unsaid.{Says}
use Rattle.sayable_parts.proofs.SearchLaws.{HoldsBefore}
use Rattle.sayable_parts.proofs.search.unsaid_axiom.Given as goal

abbrev pub invariant-axioms : goal.invariant-axioms
invariant-axioms g l = HoldsBefore (Says (g.S.Saying.objection l.syntax)) l.doc.arena.trees l.id-index l.id-items
