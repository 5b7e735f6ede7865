use Rattle.std.proofs.Common.{rules}
use Rattle.std.specs.Str.{chars}
use Rattle.std.proofs.lemmas.Str.{encodes-chars}
use Rattle.owl_atom.proofs.PrefixBlocks.{begins_first}
use Rattle.owl_atom.proofs.blocks.begins_by.Goals as goal

pub returns-in-Some : goal.returns-in-Some
returns-in-Some c =
    begins_first (chars c.args.name.now) c.args.block.now c.in-Some.prefix.now c.is_le.result c.in-Some.ensures.value (rw (encodes-chars c.args.name.now c.utf8.name) (search rules))
