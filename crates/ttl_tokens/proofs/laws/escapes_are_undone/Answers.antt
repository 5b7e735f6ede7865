use Rattle.ttl_tokens.proofs.EscapeLaws.{unescaped-pieces}
use Rattle.ttl_tokens.proofs.laws.escapes_are_undone.Goals as goal

pub returns : goal.returns
returns c = unescaped-pieces
