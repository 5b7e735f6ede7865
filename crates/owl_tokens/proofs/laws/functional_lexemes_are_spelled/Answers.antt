use Rattle.owl_tokens.specs.FunctionalSpellingLaws.{functional_spells}
use Rattle.owl_tokens.proofs.laws.functional_lexemes_are_spelled.Goals as goal

pub returns : goal.returns
returns c = functional_spells
