use Rattle.std.proofs.Common.{Ok, get_or, refl, ap, sym, ◌∙◌, subst}
use Rattle.std.proofs.lemmas.List.Folds.{fold_stuck}
use Rattle.std.proofs.lemmas.List.Sums.{fold_more}
use Rattle.std.proofs.lemmas.List.{take_all}
use Rattle.man_grammar.specs.Acts.{act_numbered}
use Rattle.man_grammar.specs.Runs.{all_done, done, done_next}
use Rattle.owl_reader.specs.Computing.{TurnsTo}
use Rattle.man_read.specs.Showing.{Shows}
use Rattle.owl_reader.proofs.ComputingLaws.{turned_early}
use Rattle.man_read.proofs.assembler.Assembler.do_all.Goals as goal

pub loop-act-preserved : goal.loop-act-preserved
loop-act-preserved c = λ state h.
    let next = c.args.next.now in
    let a = get_or c.args.acts.now c.loop-act.act-index 0 in
    let it = c.loop-act.invariant state h in
    let step = subst (λ r. TurnsTo Shows r c.do_numbered.new.self (done (act_numbered a) next it.0)) c.in_ok-do_numbered.was (c.do_numbered.ensures it.0 it.2) in
    (step.0, fold_more (done_next next) (Ok state) c.args.acts.now c.loop-act.act-index 0 c.loop-act-test.true ∙ ap (λ r. done_next next r a) it.1 ∙ step.1, step.2)

pub returns-in_err-do_numbered : goal.returns-in_err-do_numbered
returns-in_err-do_numbered c = λ state h.
    let next = c.args.next.now in
    let a = get_or c.args.acts.now c.loop-act.act-index 0 in
    let it = c.loop-act.invariant state h in
    let step = subst (λ r. TurnsTo Shows r c.do_numbered.new.self (done (act_numbered a) next it.0)) c.in_err-do_numbered.was (c.do_numbered.ensures it.0 it.2) in
    turned_early Shows c.from_residual.result _ _ _ c.from_residual.ensures.1
    (λ other. sym (fold_stuck (done_next next) _ (λ n. refl) (Ok state) c.args.acts.now c.loop-act.act-index 0 c.loop-act-test.true (ap (λ r. done_next next r a) it.1 ∙ step other)))

pub returns : goal.returns
returns c = λ state h.
    let it = c.loop-act.invariant state h in
    (it.0, ap (λ acts. all_done acts c.args.next.now state) (sym (take_all c.loop-act.act-index c.args.acts.now c.loop-act-test.false)) ∙ it.1, it.2)
