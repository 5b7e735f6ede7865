use Rattle.std.proofs.Common.{ap}
use Rattle.std.specs.Str.{chars}
use Rattle.owl_characters.proofs.text.Text.with_capacity.Goals as goal

pub returns : goal.returns
unfolding chars
returns c = ap chars c.in_ok-string.ensures.bytes
