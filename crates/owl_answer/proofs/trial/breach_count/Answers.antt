use Rattle.std.proofs.Common.{◌≡◌, arith, length}
use Rattle.owl_answer.proofs.TrialLaws.{counted_breaches}
use Rattle.owl_answer.proofs.trial.breach_count.Goals as goal

pub returns : goal.returns
returns c =
    let found = c.in_ok-found.found in
    let counted : c.len.result ≡ length found.items = let l = c.len.ensures in let f = found.ok in omega arith in
    counted_breaches c.args.profile c.args.closure.now found.items c.len.result c.in_ok-found.ensures counted
