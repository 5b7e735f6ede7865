use Rattle.std.proofs.Common.{◌≡◌, map, string_bytes, take}
use Rattle.std.specs.Str.{encode_utf8_all}
use Rattle.owl_command.proofs.names.texts_of.Given as goal

abbrev pub invariant-words : goal.invariant-words
invariant-words l =
    map encode_utf8_all l.texts.items ≡ map string_bytes (take l.word-index l.words)
