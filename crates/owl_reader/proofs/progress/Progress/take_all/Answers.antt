use Rattle.std.proofs.Common.{rules, subst, sym, ◌∙◌, List}
use Rattle.std.proofs.lemmas.List.{nil_from_length}
use Rattle.std.specs.Vec.Iter.{into_iter_items}
use Rattle.owl_lexer.specs.declared.placed.Placed.{Placed}
use Rattle.owl_lexer.specs.Languages.{AreSpelled}
use Rattle.owl_characters.proofs.ResultLaws.{passed}
use Rattle.owl_reader.proofs.Tokens.{PassesFrom, all_passed, among, can_more, passes_none, with_more}
use Rattle.owl_reader.proofs.progress.Progress.take_all.Goals as goal

pub loop-placed-init : goal.loop-placed-init
loop-placed-init g c = record {
  passes = λ context steps s. subst (λ (l : List (Placed _)). PassesFrom g.S.Grammar.Table.grammar (g.S.Syntax.rules context) (g.S.Syntax.Made context) c.args.self.now.parser c.args.self.now.syntax c.args.self.now.last steps c.args.tokens.items l) (sym c.into_iter-placed-iterator.ensures.into_iter_gives.0) (passes_none c.args.tokens.items steps s);
  stands = c.requires.stands;
  len = search rules;
  spelled = subst (λ (l : List (Placed _)). AreSpelled g.S.Language.TokenLanguage.spells l) (sym c.into_iter-placed-iterator.ensures.into_iter_gives.0) c.requires.spelled;
}

pub loop-placed-preserved : goal.loop-placed-preserved
loop-placed-preserved g c = record {
  passes = λ context steps s. with_more c.in-Some.placed (subst (λ (l : List (Placed _)). PassesFrom g.S.Grammar.Table.grammar (g.S.Syntax.rules context) (g.S.Syntax.Made context) c.loop-placed.self.parser c.loop-placed.self.syntax c.loop-placed.self.last steps c.args.tokens.items l) c.in-Some.ensures.steps.0 (c.loop-placed.invariant.passes context steps s)) (c.in_ok-take.ensures.takes context);
  stands = (c.loop-placed.invariant.stands.0, can_more c.loop-placed.invariant.stands.1 (c.in_ok-take.ensures.takes c.loop-placed.invariant.stands.0));
  len = search rules;
  spelled = (subst (λ (l : List (Placed _)). AreSpelled g.S.Language.TokenLanguage.spells l) c.in-Some.ensures.steps.0 c.loop-placed.invariant.spelled).1;
}

pub returns-in_err-take-clause-refuses : goal.returns-in_err-take-clause-refuses
returns-in_err-take-clause-refuses g c = passed c.from_residual.result c.in_err-take.field-0.0 _ c.from_residual.ensures.1 (λ other context steps s. among c.in-Some.placed c.in_err-take.field-0.0 (subst (λ (l : List (Placed _)). PassesFrom g.S.Grammar.Table.grammar (g.S.Syntax.rules context) (g.S.Syntax.Made context) c.loop-placed.self.parser c.loop-placed.self.syntax c.loop-placed.self.last steps c.args.tokens.items l) c.in-Some.ensures.steps.0 (c.loop-placed.invariant.passes context steps s)) (c.in_err-take.ensures.refuses other context))

pub returns-clause-takes : goal.returns-clause-takes
returns-clause-takes g c = λ context steps s. all_passed (c.loop-placed.invariant.passes context steps s) (nil_from_length (into_iter_items c.loop-placed.placed-iterator) (sym c.loop-placed.invariant.len ∙ c.in-None.ensures.steps.0))
