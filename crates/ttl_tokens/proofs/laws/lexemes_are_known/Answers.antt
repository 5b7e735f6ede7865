use Rattle.ttl_tokens.specs.TurtleLaws.{turtle_knows}
use Rattle.ttl_tokens.proofs.laws.lexemes_are_known.Goals as goal

pub returns : goal.returns
returns c = turtle_knows
