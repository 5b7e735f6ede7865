use Rattle.rdf_counts.proofs.ArenaLaws.{first_and}
use Rattle.rdf_forward.proofs.Bare.{bare_parts}
use Rattle.rdf_forward.proofs.groups.compare_bare.Goals as goal

pub returns : goal.returns
returns c =
    let first = first_and c.kids.result.now c._notes-item.result c.in-len1-up.len_at_least c._notes-item.is in
    let second = first_and c.kids-2.result.now c._others-item.result c.in-len1-up-kids.len_at_least c._others-item.is in
    bare_parts c.args.arena.now.trees c.args.a c.args.b _ _ _ _ _ _ c.tag.result c.tag-2.result _ _ _ first second c.kids.ensures.kids c.kids-2.ensures.kids c.tag.ensures c.tag-2.ensures c.cmp.ensures c.compare_kids.ensures c.then.ensures
