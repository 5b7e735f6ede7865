-- A byte is begun, or makes a character whole, or begins none.
use Rattle.std.proofs.Common.{refl, sym, ◌∙◌}
use Rattle.owl_lexer.proofs.Bytes.{fed_whole, turns_back, refuses_bad, refuses_last, refuses_whole, takes_mark, takes_unfinished, takes_whole}
use Rattle.owl_characters.proofs.ResultLaws.{passed}
use Rattle.owl_lexer.proofs.source.take.Goals as goal

pub returns-then-passes-clause-taken : goal.returns-then-passes-clause-taken
returns-then-passes-clause-taken g c none =
    let step = c.in-Char.ensures.step c.requires.ready.clean in
    takes_mark g.L.TokenLanguage.automaton g.L.TokenLanguage.value_of c.args.source.now _ c.args.byte c.in-Char.c c.args.into.now.items c.requires.ready
    (fed_whole c.args.source.now.feed c.push.new.self c.args.byte c.in-Char.c _ step) (sym c.is_mark_in_front-passes.ensures ∙ c.if-passes.true) refl refl

pub returns-in-More-clause-taken : goal.returns-in-More-clause-taken
returns-in-More-clause-taken g c none =
    takes_unfinished g.L.TokenLanguage.automaton g.L.TokenLanguage.value_of c.args.source.now.hand c.args.source.now.feed c.push.new.self c.args.source.now.fresh c.args.byte c.args.into.now.items c.requires.ready (c.in-More.ensures.step c.requires.ready.clean).0 (c.in-More.ensures.step c.requires.ready.clean).1

pub returns-then-taken-clause-taken : goal.returns-then-taken-clause-taken
returns-then-taken-clause-taken g c none =
    let step = c.in-Char.ensures.step c.requires.ready.clean in
    takes_whole g.L.TokenLanguage.automaton g.L.TokenLanguage.value_of c.args.source.now _ c.args.byte c.in-Char.c c.args.into.now.items c.push-in-Char.new.into.items c.requires.ready
    (fed_whole c.args.source.now.feed c.push.new.self c.args.byte c.in-Char.c _ step) (sym c.is_mark_in_front-passes.ensures ∙ c.if-passes.false) refl
    (c.in_ok-taken-in-Char.ensures.ok c.if-taken.true)

pub returns-else-taken-clause-turned : goal.returns-else-taken-clause-turned
returns-else-taken-clause-turned g c x is =
    let step = c.in-Char.ensures.step c.requires.ready.clean in
    turns_back g.L.TokenLanguage.automaton g.L.TokenLanguage.value_of c.args.source.now _ c.args.byte c.in-Char.c x c.args.into.now.items _ c.requires.ready
    (fed_whole c.args.source.now.feed c.push.new.self c.args.byte c.in-Char.c _ step) (sym c.is_mark_in_front-passes.ensures ∙ c.if-passes.false) refl
    (c.in_ok-taken-in-Char.ensures.turned c.if-taken.false) is

pub returns-in_err-taken-in-Char-clause-err : goal.returns-in_err-taken-in-Char-clause-err
returns-in_err-taken-in-Char-clause-err g c =
    let step = c.in-Char.ensures.step c.requires.ready.clean in
    let fault = c.in_err-taken-in-Char.field-0.0 in
    passed c.from_residual.result fault _ c.from_residual.ensures.1
    (refuses_whole g.L.TokenLanguage.automaton g.L.TokenLanguage.value_of c.args.source.now c.push.new.self c.args.byte c.in-Char.c c.args.into.now.items c.push-in-Char.new.into.items fault c.requires.ready
    (fed_whole c.args.source.now.feed c.push.new.self c.args.byte c.in-Char.c _ step) (sym c.is_mark_in_front-passes.ensures ∙ c.if-passes.false) c.in_err-taken-in-Char.ensures.err)

pub returns-in_ok-finish-in-Bad-clause-err : goal.returns-in_ok-finish-in-Bad-clause-err
returns-in_ok-finish-in-Bad-clause-err g c =
    let step = c.in-Bad.ensures.step c.requires.ready.clean in
    refuses_bad g.L.TokenLanguage.automaton g.L.TokenLanguage.value_of c.args.source.now c.finish.new.hand c.args.byte c.args.source.now.hand.end c.args.into.now.items c.finish.new.into.items c.requires.ready refl step.1 c.in_ok-finish-in-Bad.ensures.ok

pub returns-in_err-finish-in-Bad-clause-err : goal.returns-in_err-finish-in-Bad-clause-err
returns-in_err-finish-in-Bad-clause-err g c =
    let step = c.in-Bad.ensures.step c.requires.ready.clean in
    let fault = c.in_err-finish-in-Bad.field-0.0 in
    passed c.from_residual-in_err-finish-in-Bad.result fault _ c.from_residual-in_err-finish-in-Bad.ensures.1
    (refuses_last g.L.TokenLanguage.automaton g.L.TokenLanguage.value_of c.args.source.now c.args.byte c.args.into.now.items c.finish.new.into.items fault c.requires.ready step.1 c.in_err-finish-in-Bad.ensures.err)
