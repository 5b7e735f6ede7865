use Rattle.fss_grammar.proofs.ActLaws.{same_act}
use Rattle.fss_grammar.proofs.laws.acts_are_told_apart.Goals as goal

pub returns : goal.returns
returns c = same_act
