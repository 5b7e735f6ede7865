use Rattle.fss_grammar.proofs.WritingLaws.{documents_do_as_written}
use Rattle.fss_grammar.proofs.laws.documents_do_as_written.Goals as goal

pub returns : goal.returns
returns c = documents_do_as_written
