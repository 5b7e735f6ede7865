use Rattle.owl_characters.proofs.Utf8Bytes.{one_wrong}
use Rattle.owl_characters.proofs.utf8_states.judge_first.Goals as goal

pub returns-then-a-gt244 : goal.returns-then-a-gt244
returns-then-a-gt244 c = one_wrong c.args.a c.if-a-lt128.false c.if-a-gt244.either
