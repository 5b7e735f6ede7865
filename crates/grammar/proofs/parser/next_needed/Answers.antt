-- An act is done, or the symbols of an alternative stand for a rule.
use Rattle.std.proofs.Common.{reverse, rules}
use Rattle.std.specs.Prelude.{IfErr, ◌≡◌}
use Rattle.grammar.specs.Grammars.{entry}
use Rattle.grammar.proofs.PredictiveLaws.{predictive}
use Rattle.grammar.specs.Tables.{NoneIsTaken}
use Rattle.grammar.specs.declared.fault.ParseFault.TheVariants.{Unexpected}
use Rattle.grammar.proofs.Settling.{act_step, if_err, refuse_step, rule_step}
use Rattle.grammar.proofs.parser.next_needed.Goals as goal

pub loop-symbol-preserved-in-Continue-1 : goal.loop-symbol-preserved-in-Continue-1
loop-symbol-preserved-in-Continue-1 g c =
    act_step g.T.Table.grammar _ _ _ c.loop-symbol.stack.items c.pop.new.self.items c.loop-symbol.acts.items _ c.in-Some.symbol c.in-Act.act c.loop-symbol.invariant c.in-Some.ensures.items c.in-Act.is c.in_ok-push-in-Act.ensures.items

pub loop-symbol-smaller : goal.loop-symbol-smaller
loop-symbol-smaller g c = (rule_step g.T.Table.grammar (predictive g.T.Table.grammar g.met.T.Table.predictive) c.args.ahead (reverse c.args.stack.now.items) c.args.acts.now.items c.loop-symbol.stack.items c.pop.new.self.items c.expand.new.stack.items c.loop-symbol.acts.items c.in-Some.symbol c.in-Rule.rule c.loop-symbol.invariant c.in-Some.ensures.items c.in-Rule.is c.in_ok-expand-in-Rule.ensures.expanded).smaller

pub loop-symbol-preserved : goal.loop-symbol-preserved
loop-symbol-preserved g c = (rule_step g.T.Table.grammar (predictive g.T.Table.grammar g.met.T.Table.predictive) c.args.ahead (reverse c.args.stack.now.items) c.args.acts.now.items c.loop-symbol.stack.items c.pop.new.self.items c.expand.new.stack.items c.loop-symbol.acts.items c.in-Some.symbol c.in-Rule.rule c.loop-symbol.invariant c.in-Some.ensures.items c.in-Rule.is c.in_ok-expand-in-Rule.ensures.expanded).settles

pub returns-in_err-expand-in-Rule-clause-refuses : goal.returns-in_err-expand-in-Rule-clause-refuses
returns-in_err-expand-in-Rule-clause-refuses g c =
    let none : IfErr c.from_residual-in_err-expand-in-Rule.result (λ fault. fault ≡ Unexpected → NoneIsTaken (entry g.T.Table.grammar c.in-Rule.rule).rows c.args.ahead) = search rules in
    if_err c.from_residual-in_err-expand-in-Rule.result
    (λ fault f e. refuse_step g.T.Table.grammar (predictive g.T.Table.grammar g.met.T.Table.predictive) c.args.ahead _ c.args.acts.now.items c.loop-symbol.stack.items c.pop.new.self.items c.loop-symbol.acts.items c.in-Some.symbol c.in-Rule.rule c.loop-symbol.invariant c.in-Some.ensures.items c.in-Rule.is (f e))
    none
