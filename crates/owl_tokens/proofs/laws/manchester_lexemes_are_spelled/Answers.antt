use Rattle.owl_tokens.specs.ManchesterSpellingLaws.{manchester_spells}
use Rattle.owl_tokens.proofs.laws.manchester_lexemes_are_spelled.Goals as goal

pub returns : goal.returns
returns c = manchester_spells
