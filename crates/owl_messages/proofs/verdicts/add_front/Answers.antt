use Rattle.std.proofs.Common.{◌∙◌}
use Rattle.owl_messages.proofs.Telling.{front_ascii}
use Rattle.owl_messages.proofs.verdicts.add_front.Goals as goal

pub add_ascii-requires : goal.add_ascii-requires
add_ascii-requires c = front_ascii c.args.rule _ _ (c.as_str.ensures.value ∙ c.in_ok-front.ensures.ok)
