-- A rule of the grammar alone is followed by the end.
use Rattle.std.proofs.Common.{List, [], ◌∷◌, ◌++◌, ap, ◌∙◌}
use Rattle.grammar.proofs.PredictiveLaws.{predictive}
use Rattle.grammar.specs.declared.symbol.Symbol.{Symbol}
use Rattle.grammar.specs.declared.symbol.Symbol.TheVariants.{Rule}
use Rattle.grammar.proofs.Parsers.{starts_followed}
use Rattle.grammar.proofs.parser.Parser.new.Goals as goal

pub invariant_of-result : goal.invariant_of-result
invariant_of-result g c = λ _.
    starts_followed (predictive g.T.Table.grammar g.met.T.Table.predictive) c.args.start c.push.new.self.items c.requires
    (c.in_ok-push.ensures.items ∙ ap (λ (l : List Symbol). l ++ Rule c.args.start ∷ []) c.new-expected.ensures.items)
