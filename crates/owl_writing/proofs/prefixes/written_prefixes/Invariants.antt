use Rattle.std.proofs.Common.{◌≡◌, take}
use Rattle.owl_atom.specs.Prefixes.{fixed_prefixes}
use Rattle.owl_writing.proofs.SetTables.{with_prefixes}
use Rattle.owl_writing.proofs.prefixes.written_prefixes.Given as goal

-- the prefixes that are set so far
abbrev pub invariant-loop-place : goal.invariant-loop-place
invariant-loop-place l = record {
  written : l.written ≡ with_prefixes (take l.place fixed_prefixes) l.prefixes;
  fixed : l.fixed ≡ fixed_prefixes;
}
