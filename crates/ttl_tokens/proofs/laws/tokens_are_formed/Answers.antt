use Rattle.ttl_tokens.proofs.TokenFormLaws.{tokens_formed}
use Rattle.ttl_tokens.proofs.laws.tokens_are_formed.Goals as goal

pub returns : goal.returns
returns c = tokens_formed
