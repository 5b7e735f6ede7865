use Rattle.std.proofs.Common.{rules}
use Rattle.owl_answer.proofs.TrialLaws.{no_trouble}
use Rattle.owl_answer.proofs.trial.read_whole_text.Goals as goal

pub unreachable-requires : goal.unreachable-requires
unreachable-requires c =
    let trouble = c.in-Err-Refused.field-0 in
    no_trouble c.args.syntax _ trouble c.requires c.in-Err-Refused.ensures.refuses c.in-Err-Refused.ensures.proper (search rules) (search rules)
