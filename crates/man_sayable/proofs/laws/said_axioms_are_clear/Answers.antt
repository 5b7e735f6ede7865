use Rattle.man_sayable.proofs.SayableLaws.{axiom_said, clear_kids, facet_word, one_property}
use Rattle.man_sayable.proofs.laws.said_axioms_are_clear.Goals as goal

pub returns-clause-axiom : goal.returns-clause-axiom
returns-clause-axiom c = axiom_said

pub returns-clause-kids : goal.returns-clause-kids
returns-clause-kids c = clear_kids

pub returns-clause-quantifier : goal.returns-clause-quantifier
returns-clause-quantifier c = one_property

pub returns-clause-facet : goal.returns-clause-facet
returns-clause-facet c = facet_word
