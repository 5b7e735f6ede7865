-- The first byte is taken, and a run behind it; or its character turns back, and what is taken again then is settled.
use Rattle.std.proofs.Common.{rules, ℕ, List, [], ◌∷◌, ◌++◌, ap, ◌∙◌}
use Rattle.std.proofs.lemmas.Result.{IfErr-weaker}
use Rattle.owl_characters.proofs.ResultLaws.{passed}
use Rattle.owl_lexer.proofs.Moving.{first_refused, front_refused, front_taken, turned_memory, turned_refused, turned_taken}
use Rattle.owl_lexer.proofs.source.take_front.Goals as goal

pub returns-in_err-c-clause-err : goal.returns-in_err-c-clause-err
returns-in_err-c-clause-err g c =
    let fault = c.in_err-c.field-0.0 in
    passed c.from_residual.result fault _ c.from_residual.ensures.1
    (first_refused g.L.TokenLanguage.automaton g.L.TokenLanguage.value_of c.args.source.now c.args.again.now c.args.bytes.now c.args.into.now.items c.take.new.into.items fault c.requires.none.0 c.requires.some c.in_err-c.ensures.err)

pub returns-in_err-add-clause-err : goal.returns-in_err-add-clause-err
returns-in_err-add-clause-err g c =
    IfErr-weaker c.from_residual-in_err-add.result _ _
    (λ fault e. turned_memory g.L.TokenLanguage.automaton g.L.TokenLanguage.value_of c.args.source.now c.take.new.source c.args.again.now c.args.bytes.now c.in-Some.c c.args.into.now.items c.take.new.into.items fault c.requires.none.0 c.requires.some (c.in_ok-c.ensures.turned c.in-Some.c c.in-Some.is) e)
    (search rules)

pub returns-in_err-settle-clause-err : goal.returns-in_err-settle-clause-err
returns-in_err-settle-clause-err g c =
    let fault = c.in_err-settle.field-0.0 in
    passed c.from_residual-in_err-settle.result fault _ c.from_residual-in_err-settle.ensures.1
    (turned_refused g.L.TokenLanguage.automaton g.L.TokenLanguage.value_of c.args.source.now c.take.new.source c.args.again.now (record c.args.again.now { chars = c.add.new.items; lost = c.clear.new.self }) c.args.bytes.now c.in-Some.c c.args.into.now.items c.take.new.into.items c.settle.new.into.items fault c.requires.none.0 c.requires.some (c.in_ok-c.ensures.turned c.in-Some.c c.in-Some.is) (c.in_ok-add.ensures.ok ∙ ap (λ (l : List ℕ). l ++ c.in-Some.c ∷ []) c.requires.none.0) c.requires.none.1 c.in_err-settle.ensures.err)

pub returns-in-Some-clause-ok : goal.returns-in-Some-clause-ok
returns-in-Some-clause-ok g c =
    turned_taken g.L.TokenLanguage.automaton g.L.TokenLanguage.value_of c.args.source.now c.take.new.source c.settle.new.hand c.args.again.now (record c.args.again.now { chars = c.add.new.items; lost = c.clear.new.self }) c.settle.new.again c.args.bytes.now c.in-Some.c c.args.into.now.items c.take.new.into.items c.settle.new.into.items c.requires.open_yet c.requires.none.0 c.requires.some (c.in_ok-c.ensures.turned c.in-Some.c c.in-Some.is) (c.in_ok-add.ensures.ok ∙ ap (λ (l : List ℕ). l ++ c.in-Some.c ∷ []) c.requires.none.0) c.clear.ensures.items c.requires.none.1 c.in_ok-settle.ensures.ok

pub returns-in_err-count-clause-err : goal.returns-in_err-count-clause-err
returns-in_err-count-clause-err g c =
    let fault = c.in_err-count.field-0.0 in
    passed c.from_residual-in_err-count.result fault _ c.from_residual-in_err-count.ensures.1
    (front_refused g.L.TokenLanguage.automaton g.L.TokenLanguage.value_of c.args.source.now c.take.new.source c.args.again.now c.args.bytes.now c.args.into.now.items c.take.new.into.items c.take_plain.new.into.items fault c.requires.none.0 c.requires.some (c.in_ok-c.ensures.taken c.in_default.is) c.in_err-count.ensures.err)

pub returns-clause-ok : goal.returns-clause-ok
returns-clause-ok g c =
    front_taken g.L.TokenLanguage.automaton g.L.TokenLanguage.value_of c.args.source.now c.take.new.source c.take_plain.new.source c.args.again.now c.args.bytes.now c.in_ok-count.count c.args.into.now.items c.take.new.into.items c.take_plain.new.into.items c.requires.none.0 c.requires.none.1 c.requires.some (c.in_ok-c.ensures.taken c.in_default.is) c.in_ok-count.ensures.ok
