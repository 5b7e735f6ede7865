use Rattle.std.proofs.Common.{refl}
use Rattle.ttl_tokens.specs.TurtleGrammar.{turtle_grammar}
use Rattle.ttl_tokens.proofs.laws.sets_are_listed.Goals as goal

pub returns : goal.returns
unfolding turtle_grammar
returns c = refl
