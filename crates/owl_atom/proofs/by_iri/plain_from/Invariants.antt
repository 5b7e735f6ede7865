use Rattle.std.proofs.Common.{◌≤◌, drop, length}
use Rattle.owl_characters.specs.Iri.{AllAre}
use Rattle.owl_atom.specs.Prefixes.{is_plain_character}
use Rattle.owl_atom.proofs.by_iri.plain_from.Given as goal

abbrev pub invariant-loop-from : goal.invariant-loop-from
invariant-loop-from l = record {
  within : l.from ≤ length l.bytes;
  plain : AllAre is_plain_character (drop l.from l.bytes);
}

abbrev pub decreases-loop-from : goal.decreases-loop-from
decreases-loop-from l = l.from
