use Rattle.std.proofs.Common.{◌≡◌, map, take, string_bytes}
use Rattle.owl_cli.specs.Files.{unread}
use Rattle.owl_cli.proofs.file_shelf.FileShelf.new.Given as goal

abbrev pub invariant-loop-word : goal.invariant-loop-word
invariant-loop-word g l = l.named.items ≡ map (λ w. unread (string_bytes w)) (take l.word-index l.words)
