use Rattle.ttl_tokens.proofs.StringLaws.{long_quote_is_undone, long_single_quote_is_undone, quote_is_undone, single_quote_is_undone}
use Rattle.ttl_tokens.proofs.laws.strings_are_undone.Goals as goal

pub returns-clause-quote : goal.returns-clause-quote
returns-clause-quote c = quote_is_undone

pub returns-clause-single_quote : goal.returns-clause-single_quote
returns-clause-single_quote c = single_quote_is_undone

pub returns-clause-long_quote : goal.returns-clause-long_quote
returns-clause-long_quote c = long_quote_is_undone

pub returns-clause-long_single_quote : goal.returns-clause-long_single_quote
returns-clause-long_single_quote c = long_single_quote_is_undone
