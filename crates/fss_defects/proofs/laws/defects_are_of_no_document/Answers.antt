use Rattle.fss_defects.proofs.Refusals.{defect_is_of_none}
use Rattle.fss_defects.proofs.laws.defects_are_of_no_document.Goals as goal

pub returns : goal.returns
returns c = defect_is_of_none c.tokens_come_one_way.ensures.whole
