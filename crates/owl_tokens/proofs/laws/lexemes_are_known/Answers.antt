use Rattle.owl_tokens.specs.FunctionalLaws.{functional_knows}
use Rattle.owl_tokens.specs.ManchesterLaws.{manchester_knows}
use Rattle.owl_tokens.proofs.laws.lexemes_are_known.Goals as goal

pub returns-clause-functional : goal.returns-clause-functional
returns-clause-functional c = functional_knows

pub returns-clause-manchester : goal.returns-clause-manchester
returns-clause-manchester c = manchester_knows
