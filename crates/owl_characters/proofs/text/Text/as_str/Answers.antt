use Rattle.std.proofs.Common.{ap, ◌∙◌}
use Rattle.std.specs.Str.{chars}
use Rattle.owl_characters.proofs.Characters.{bytes_of, scalars_of}
use Rattle.owl_characters.proofs.text.Text.as_str.Goals as goal

pub returns-clause-bytes : goal.returns-clause-bytes
returns-clause-bytes c = bytes_of _ _ c.as_str.utf8 (ap chars c.as_str.ensures.value ∙ c.self.view_is)

pub returns-clause-scalars : goal.returns-clause-scalars
returns-clause-scalars c = scalars_of _ _ c.as_str.utf8 (ap chars c.as_str.ensures.value ∙ c.self.view_is)
