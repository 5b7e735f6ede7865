use Rattle.std.proofs.Common.{◌≡◌, ◌++◌, length, map}
use Rattle.std.specs.Vec.Iter.{into_iter_items, into_iter_len}
use Rattle.blank_labels.specs.LabelNumbers.{names_beside}
use Rattle.ttl_grammar.specs.Labels.{named_triple}
use Rattle.ttl_read.proofs.labels.gather_all.Given as goal

-- what was gathered, and what is left
abbrev pub invariant-loop-triple : goal.invariant-loop-triple
invariant-loop-triple l = record {
  all : l.fn.gather ++ map (named_triple (names_beside l.labels)) l.fn.triples.items ≡ l.gather ++ map (named_triple (names_beside l.labels)) (into_iter_items l.triple-iterator);
  len : into_iter_len l.triple-iterator ≡ length (into_iter_items l.triple-iterator);
}
