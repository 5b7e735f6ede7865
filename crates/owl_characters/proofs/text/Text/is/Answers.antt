use Rattle.owl_characters.proofs.Characters.{same_chars}
use Rattle.owl_characters.proofs.text.Text.is.Goals as goal

pub returns : goal.returns
returns c = same_chars _ _ _ _ c.eq.ensures c.as_str.utf8 c.utf8.word c.as_str.ensures.chars
