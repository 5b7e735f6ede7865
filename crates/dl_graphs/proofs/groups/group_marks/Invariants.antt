use Rattle.std.proofs.Common.{◌≡◌, ◌++◌, drop}
use Rattle.dl_graphs.specs.Groups.{group_marks}
use Rattle.dl_graphs.proofs.groups.group_marks.Given as goal

abbrev pub invariant-counts : goal.invariant-counts
invariant-counts l = group_marks l.counts l.marks ≡ l.groups.items ++ group_marks (drop l.count-index l.counts) l.rest
