use Rattle.std.proofs.Common.{IfSome, IsNone, refl, subst, sym}
use Rattle.rdf_meaning.specs.declared.row.Want.TheVariants.{One}
use Rattle.rdf_nodes.specs.Operands.{IsOperand}
use Rattle.rdf_statements.specs.Forms.{GivesKids, one}
use Rattle.rdf_statements.proofs.kids.one.Goals as goal

pub returns-clause-kids : goal.returns-clause-kids
returns-clause-kids c =
    let g = c.args.source.now.graph.now in
    let k = c.args.source.now.kinds.now in
    let roles = c.args.source.now.roles.now in
    let found = subst (λ f. IfSome f (IsOperand g k roles c.args.sort c.args.term.now)) c.in-Some.is c.in_ok-operand.ensures.operand in
    subst (GivesKids g k roles c.args.term.now (One c.args.sort)) (sym c.in_ok-only.ensures) (one c.args.sort c.in-Some.operand found)

pub returns-in_default-clause-none : goal.returns-in_default-clause-none
returns-in_default-clause-none c = λ formed told _ met. c.in_ok-operand.ensures.none (subst IsNone (sym c.in_default.is) refl) told met
