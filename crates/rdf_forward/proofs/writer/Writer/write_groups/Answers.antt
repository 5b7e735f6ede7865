use Rattle.rdf_counts.proofs.ArenaLaws.{first_and, none_left}
use Rattle.rdf_forward.proofs.GroupWriting.{groups_end, groups_next, held_others, ordered_others}
use Rattle.rdf_forward.proofs.writer.Writer.write_groups.Goals as goal

pub loop-left-preserved : goal.loop-left-preserved
loop-left-preserved c =
    let trees = c.args.arena.now.trees in
    let e = first_and c.loop-left.left.now c.first-item.result c.in-len1-up.len_at_least c.first-item.is in
    record {
      on = groups_next trees _ _ _ _ _ _ _ _ _ _ e c.split_at.ensures.front c.split_at.ensures.back c.loop-left.invariant.ordered c.group_len.ensures c.in_ok-write_axioms.ensures c.loop-left.invariant.on;
      held = held_others trees _ _ _ c.split_at.ensures.back c.loop-left.invariant.held;
      ordered = ordered_others trees _ _ _ c.split_at.ensures.back c.loop-left.invariant.ordered;
    }

pub returns : goal.returns
returns c = groups_end c.args.arena.now.trees _ _ _ _ (none_left _ c.in_default.len_below) c.loop-left.invariant.on
