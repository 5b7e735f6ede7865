use Rattle.std.proofs.Common.{◌++◌, map}
use Rattle.blank_labels.specs.LabelNumbers.{names_beside}
use Rattle.owl_list.specs.Ascending.{HoldSame}
use Rattle.ttl_grammar.specs.Labels.{named_triple}
use Rattle.ttl_read.proofs.labels.gather_of_iris.Given as goal

-- what was gathered, what was put aside, and what is left
abbrev pub invariant-loop-triple : goal.invariant-loop-triple
invariant-loop-triple l =
    HoldSame (l.gather ++ (map (named_triple (names_beside l.labels)) l.others.items ++ map (named_triple (names_beside l.labels)) l.triple-iterator))
    (l.fn.gather ++ map (named_triple (names_beside l.labels)) l.fn.triples.keys)
