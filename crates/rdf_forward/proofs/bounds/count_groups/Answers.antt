use Rattle.std.proofs.Common.{rules}
use Rattle.rdf_counts.proofs.ArenaLaws.{first_and, none_left}
use Rattle.rdf_forward.proofs.GroupCounting.{group_out, groups_taken, next_taken}
use Rattle.rdf_forward.proofs.GroupWriting.{held_others, ordered_others}
use Rattle.rdf_forward.proofs.bounds.count_groups.Goals as goal

pub returns-in_err-remaining : goal.returns-in_err-remaining
returns-in_err-remaining c =
    let e = first_and c.loop-rest.rest.now c.first-item.result c.in-len1-up.len_at_least c.first-item.is in
    group_out c.args.arena.now.trees _ _ _ _ _ c.first-item.result c.group_len.result c.from_residual.result (search rules) e c.loop-rest.invariant.ordered c.group_len.ensures (search rules) c.loop-rest.invariant.on

pub loop-rest-preserved : goal.loop-rest-preserved
loop-rest-preserved c =
    let trees = c.args.arena.now.trees in
    let e = first_and c.loop-rest.rest.now c.first-item.result c.in-len1-up.len_at_least c.first-item.is in
    record {
      on = next_taken trees _ _ _ _ _ _ _ _ _ e c.split_at.ensures.back c.loop-rest.invariant.ordered c.group_len.ensures (search rules) c.loop-rest.invariant.on;
      held = held_others trees _ _ _ c.split_at.ensures.back c.loop-rest.invariant.held;
      ordered = ordered_others trees _ _ _ c.split_at.ensures.back c.loop-rest.invariant.ordered;
    }

pub returns : goal.returns
returns c = groups_taken c.args.arena.now.trees _ _ _ _ (none_left _ c.in_default.len_below) c.loop-rest.invariant.on
