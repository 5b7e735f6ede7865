use Rattle.ttl_tokens.specs.TurtleSpellingLaws.{turtle_is_prompt}
use Rattle.ttl_tokens.proofs.laws.language_is_prompt.Goals as goal

pub returns : goal.returns
returns c = turtle_is_prompt
