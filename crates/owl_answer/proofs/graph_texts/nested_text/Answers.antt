use Rattle.std.proofs.Common.{rules}
use Rattle.owl_answer.proofs.GraphTextLaws.{nested_too_long}
use Rattle.owl_answer.proofs.graph_texts.nested_text.Goals as goal

pub returns-in-Ok-clause-too_long : goal.returns-in-Ok-clause-too_long
returns-in-Ok-clause-too_long c = λ e. nested_too_long _ _ (c.write.ensures.too_long e)

pub unreachable-requires : goal.unreachable-requires
unreachable-requires c = c.requires c.in-Err.field-0 (search rules) c.in-Err.ensures.fault
