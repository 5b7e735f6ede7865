use Rattle.std.proofs.Common.{sym, ◌∙◌, ◌<◌, length, rules}
use Rattle.rdf_counts.proofs.ArenaLaws.{none_left}
use Rattle.rdf_forward.proofs.Bare.{fewer_kids}
use Rattle.rdf_forward.proofs.groups.compare_kids.Goals as goal

pub returns-else-is_empty : goal.returns-else-is_empty
returns-else-is_empty c =
    let some : 0 < length c.loop-left.right.now = search rules in
    sym (fewer_kids _ _ _ (none_left _ c.in_default.len_below) some) ∙ c.loop-left.invariant.decides
