use Rattle.fss_grammar.proofs.WritingLaws.{fed_leads, underived_is_unwritten, what_is_done_is_written}
use Rattle.fss_grammar.proofs.laws.fed_documents_are_written.Goals as goal

pub returns : goal.returns
returns c = record { leads = fed_leads; underived = underived_is_unwritten; written = what_is_done_is_written }
