use Rattle.man_grammar.proofs.DocumentLaws.{one_first_defect}
use Rattle.man_grammar.proofs.laws.one_first_defect.Goals as goal

pub returns : goal.returns
returns c = one_first_defect
