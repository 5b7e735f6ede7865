use Rattle.std.proofs.lemmas.Str.{IsUtf8-string_bytes}
use Rattle.owl_characters.proofs.Characters.{pushed}
use Rattle.owl_characters.proofs.text.Text.push_str.Goals as goal

pub returns-clause-ok : goal.returns-clause-ok
returns-clause-ok c =
    pushed _ _ _ _ (IsUtf8-string_bytes c.self.inside.string) c.self.view_is c.in_ok-push_str.ensures.bytes
