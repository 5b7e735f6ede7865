use Rattle.std.proofs.Common.{take}
use Rattle.blank_labels.specs.LabelNumbers.{Counts, no_numbers}
use Rattle.ttl_grammar.specs.Labels.{labels_of}
use Rattle.ttl_read.proofs.labels.fresh_labels.Given as goal

-- those of the triples so far were counted
abbrev pub invariant-loop-triple : goal.invariant-loop-triple
invariant-loop-triple l = Counts no_numbers l.numbers (labels_of (take l.triple-index l.triples))
