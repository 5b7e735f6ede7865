use Rattle.std.proofs.Common.{rules, ◌≡◌, ◌∷◌, [], refl, subst, sym, IfSome, IsNone}
use Rattle.rdf_nodes.specs.Operands.{IsOperand}
use Rattle.rdf_nodes.proofs.Steps.{one_of}
use Rattle.rdf_nodes.proofs.source.Source.one.Goals as goal

pub returns-clause-operands : goal.returns-clause-operands
returns-clause-operands c =
    let items : c.push.new.self.items ≡ c.in-Some.operand ∷ [] = search rules in
    let found = subst (λ f. IfSome f (IsOperand c.args.self.now.graph.now c.args.self.now.kinds.now c.args.self.now.roles.now c.args.sort c.args.term.now)) c.in-Some.is c.in_ok-operand.ensures.operand in
    one_of c.args.self.now.graph.now c.args.self.now.kinds.now c.args.self.now.roles.now c.args.term.now c.args.sort c.in-Some.operand c.push.new.self.items items found

pub returns-in_default-clause-none : goal.returns-in_default-clause-none
returns-in_default-clause-none c = λ _ wanted. c.in_ok-operand.ensures.no_tree (subst IsNone (sym c.in_default.is) refl) wanted
