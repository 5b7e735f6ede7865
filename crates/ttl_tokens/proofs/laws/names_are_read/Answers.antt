use Rattle.ttl_tokens.proofs.NameLaws.{local_is_read, prefix_is_read}
use Rattle.ttl_tokens.proofs.laws.names_are_read.Goals as goal

pub returns-clause-prefix : goal.returns-clause-prefix
returns-clause-prefix c = prefix_is_read

pub returns-clause-local : goal.returns-clause-local
returns-clause-local c = local_is_read
