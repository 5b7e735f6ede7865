use Rattle.std.proofs.Common.{length, arith, ◌≤◌}
use Rattle.fss_acts.proofs.Turning.{answers_both, answers_last, fails_early, first_of, may_first, may_others, only_one, shorter}
use Rattle.fss_acts.proofs.assembler.Assembler.«+perform_all».Goals as goal

pub perform_last-requires-clause-ready : goal.perform_last-requires-clause-ready
perform_last-requires-clause-ready t c =
    may_first c.args.acts.now c.act_of.result _ _ c.args.next.now (only_one c.args.acts.now c.in-len1.len_at_least c.in-len1.len_below) c.act_of.ensures c.args.self.now c.requires.ready

pub perform-requires-clause-may : goal.perform-requires-clause-may
perform-requires-clause-may t c =
    let some : 1 ≤ length c.args.acts.now = omega arith in
    may_first c.args.acts.now c.act_of-in-len1-up.result _ _ c.args.next.now (first_of c.args.acts.now some) c.act_of-in-len1-up.ensures c.args.self.now c.requires.ready

pub returns-in_err-perform-in-len1-up : goal.returns-in_err-perform-in-len1-up
returns-in_err-perform-in-len1-up t c =
    let some : 1 ≤ length c.args.acts.now = omega arith in
    fails_early c.args.acts.now c.act_of-in-len1-up.result _ _ c.args.next.now (first_of c.args.acts.now some) c.act_of-in-len1-up.ensures c.args.self.now c.perform.new.self _ c.perform.result c.from_residual.result _ c.in_err-perform-in-len1-up.was c.perform.ensures c.from_residual.ensures.1 (λ f is. is)

pub returns-in-len1 : goal.returns-in-len1
returns-in-len1 t c =
    answers_last c.args.acts.now c.act_of.result _ c.args.next.now (only_one c.args.acts.now c.in-len1.len_at_least c.in-len1.len_below) c.act_of.ensures c.args.self.now c.perform_last.new.self c.perform_last.result c.perform_last.ensures

pub returns-in_ok-perform-in-len1-up : goal.returns-in_ok-perform-in-len1-up
returns-in_ok-perform-in-len1-up t c =
    let some : 1 ≤ length c.args.acts.now = omega arith in
    answers_both c.args.acts.now c.act_of-in-len1-up.result _ _ c.args.next.now (first_of c.args.acts.now some) c.act_of-in-len1-up.ensures c.args.self.now c.perform.new.self c.in_ok-perform-in-len1-up.field-0 c.perform.result c.in_ok-perform-in-len1-up.was c.perform.ensures c.perform_all.new.self c.perform_all.result c.perform_all.ensures

pub perform_all-requires : goal.perform_all-requires
perform_all-requires t c =
    let some : 1 ≤ length c.args.acts.now = omega arith in (
      shorter c.args.acts.now t c.decreases some,
      may_others c.args.acts.now c.act_of-in-len1-up.result _ _ c.args.next.now (first_of c.args.acts.now some) c.act_of-in-len1-up.ensures c.args.self.now c.perform.new.self c.in_ok-perform-in-len1-up.field-0 c.perform.result c.in_ok-perform-in-len1-up.was c.perform.ensures c.args.made.now c.requires.ready c.requires.coming,
    )
