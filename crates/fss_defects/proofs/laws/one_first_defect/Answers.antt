use Rattle.fss_defects.proofs.OneFaultLaws.{one_first_defect}
use Rattle.fss_defects.proofs.laws.one_first_defect.Goals as goal

pub returns : goal.returns
returns c = one_first_defect
