use Rattle.std.proofs.lemmas.Str.{IsUtf8-string_bytes}
use Rattle.owl_characters.proofs.Characters.{push_ok}
use Rattle.owl_characters.proofs.text.Text.push.Goals as goal

pub returns-clause-ok : goal.returns-clause-ok
returns-clause-ok c =
    push_ok c.push.result _ _ _ _ (IsUtf8-string_bytes c.self.inside.string) c.ranges.c.0 c.self.view_is c.push.ensures.bytes
