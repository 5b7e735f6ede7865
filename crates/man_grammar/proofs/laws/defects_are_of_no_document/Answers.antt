use Rattle.man_grammar.proofs.DocumentLaws.{defect_is_of_none}
use Rattle.man_grammar.proofs.laws.defects_are_of_no_document.Goals as goal

pub returns : goal.returns
returns c = defect_is_of_none
