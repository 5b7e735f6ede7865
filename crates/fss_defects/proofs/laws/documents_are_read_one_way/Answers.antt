use Rattle.fss_defects.proofs.DocumentLaws.{read_alike, read_one_way}
use Rattle.fss_defects.proofs.laws.documents_are_read_one_way.Goals as goal

pub returns : goal.returns
returns c = record { one_way = read_one_way c.tokens_come_one_way.ensures.whole; alike = read_alike }
