use Rattle.owl_tokens.specs.FunctionalSpellingLaws.{functional_is_prompt}
use Rattle.owl_tokens.specs.ManchesterSpellingLaws.{manchester_is_prompt}
use Rattle.owl_tokens.proofs.laws.languages_are_prompt.Goals as goal

pub returns : goal.returns
returns c = record { functional = functional_is_prompt; manchester = manchester_is_prompt }
