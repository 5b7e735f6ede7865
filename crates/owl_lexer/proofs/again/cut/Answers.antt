-- The longest lexeme in front is given, and what stands behind it is put back.
use Rattle.std.proofs.Common.{rules, refl, ap, ◌∙◌, ◌++◌, List, ℕ}
use Rattle.std.proofs.lemmas.Result.{IfErr-weaker}
use Rattle.owl_lexer.specs.Adding.{placed_at}
use Rattle.owl_lexer.specs.Retaking.{begun_with}
use Rattle.owl_lexer.proofs.Cuts.{again_bad, again_memory, cuts_front}
use Rattle.owl_lexer.proofs.again.cut.Goals as goal

pub returns-in_default-clause-err : goal.returns-in_default-clause-err
returns-in_default-clause-err g c =
    again_bad g.L.TokenLanguage.automaton g.L.TokenLanguage.value_of c.args.hand.now c.args.again.now c.args.into.now.items c.requires.ready c.requires.lost c.requires.some c.in_default.ensures

pub returns-in_err-put_back-clause-err : goal.returns-in_err-put_back-clause-err
returns-in_err-put_back-clause-err g c =
    IfErr-weaker c.from_residual-in_err-put_back.result _ _
    (λ fault e. again_memory g.L.TokenLanguage.automaton g.L.TokenLanguage.value_of c.args.again.now.ended (begun_with c.args.hand.now c.args.again.now) c.args.into.now.items c.args.into.now.items fault e refl)
    (search rules)

pub returns-in_err-lost-clause-err : goal.returns-in_err-lost-clause-err
returns-in_err-lost-clause-err g c =
    IfErr-weaker c.from_residual.result _ _
    (λ fault e. again_memory g.L.TokenLanguage.automaton g.L.TokenLanguage.value_of c.args.again.now.ended (begun_with c.args.hand.now c.args.again.now) c.args.into.now.items c.args.into.now.items fault e refl)
    (search rules)

pub returns-in_err-give_all-clause-err : goal.returns-in_err-give_all-clause-err
returns-in_err-give_all-clause-err g c =
    IfErr-weaker c.from_residual-in_err-give_all.result _ _
    (λ fault e. again_memory g.L.TokenLanguage.automaton g.L.TokenLanguage.value_of c.args.again.now.ended (begun_with c.args.hand.now c.args.again.now) c.args.into.now.items c.give_all.new.into.items fault e c.in_err-give_all.ensures.err)
    (search rules)

pub returns-clause-ok : goal.returns-clause-ok
returns-clause-ok g c =
    cuts_front g.L.TokenLanguage.automaton g.L.TokenLanguage.value_of c.args.hand.now c.give_all.new.hand c.args.again.now _ c.in-Some.front c.args.into.now.items c.give_all.new.into.items
    (record {
      old_ready = c.requires.ready;
      is = c.in-Some.ensures;
      ready = c.in_ok-give_all.ensures.ready;
      begun = c.in_ok-give_all.ensures.begun;
      end = c.in_ok-give_all.ensures.end;
      added =
          c.in_ok-give_all.ensures.added
          ∙ ap (λ (l : List ℕ). c.args.into.now.items ++ placed_at c.args.hand.now.at (g.L.TokenLanguage.value_of c.in-Some.front.kind l)) c.in_ok-put_back.ensures.held;
    })
    c.requires.lost c.in_ok-put_back.ensures.chars refl c.in_ok-lost.ensures
