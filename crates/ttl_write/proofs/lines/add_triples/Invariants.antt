use Rattle.std.proofs.Common.{◌≡◌, ◌++◌, take}
use Rattle.std.specs.List.{flat_map}
use Rattle.ttl_write.specs.Formed.{AreFormed}
use Rattle.ttl_write.specs.Text.{triple_line}
use Rattle.ttl_write.proofs.lines.add_triples.Given as goal

-- the lines so far, and what is known of their terms
abbrev pub invariant-loop-place : goal.invariant-loop-place
invariant-loop-place l = record {
  text : l.draft ≡ l.fn.draft ++ flat_map (triple_line l.prefixes) (take l.place l.graph);
  formed : AreFormed (take l.place l.graph);
}
