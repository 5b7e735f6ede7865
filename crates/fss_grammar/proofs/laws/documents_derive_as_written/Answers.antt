use Rattle.fss_grammar.proofs.DocumentLaws.{documents_are_written}
use Rattle.fss_grammar.proofs.laws.documents_derive_as_written.Goals as goal

pub returns : goal.returns
returns c = documents_are_written
