use Rattle.man_read_back.proofs.ReadsBackLaws.{text_reads_back}
use Rattle.man_read_back.proofs.laws.texts_read_back.Goals as goal

-- src/laws.rt:16:1
pub returns : goal.returns
returns c = text_reads_back
