use Rattle.std.proofs.Common.{rules}
use Rattle.rdf_counts.proofs.ArenaLaws.{first_and}
use Rattle.rdf_forward.proofs.Taking.{below_kid, first_below, second_below, takes_keys, takes_list, takes_whole, two_and}
use Rattle.rdf_forward.proofs.drawn.take_part.Goals as goal

pub returns-in-Many-clause-some : goal.returns-in-Many-clause-some
returns-in-Many-clause-some c = record { placed = takes_list _ _ _ _ _ _ _ _ c.in-Many.is (search rules) (search rules) }

pub returns-in-len1-up-kids-clause-some : goal.returns-in-len1-up-kids-clause-some
returns-in-len1-up-kids-clause-some c =
    let e = first_and c.args.kids.now c.kid-item-in-Whole.result c.in-len1-up-kids.len_at_least c.kid-item-in-Whole.is in
    record { placed = takes_whole _ _ _ _ _ _ c.kid-item-in-Whole.result _ c.kids.result.now _ c.in-Whole.is e c.kids.ensures.kids }

pub returns-in-len1-up-kids-clause-drawn : goal.returns-in-len1-up-kids-clause-drawn
returns-in-len1-up-kids-clause-drawn c =
    let e = first_and c.args.kids.now c.kid-item-in-Whole.result c.in-len1-up-kids.len_at_least c.kid-item-in-Whole.is in
    below_kid _ _ _ (first_below _ _ _ _ e c.requires.below) c.kids.ensures.below

pub returns-in-len2-up-clause-some : goal.returns-in-len2-up-clause-some
returns-in-len2-up-clause-some c =
    let e = two_and c.args.kids.now c.objects-item.result c.data-item.result c.in-len2-up.len_at_least c.objects-item.is c.data-item.is in
    record { placed = takes_keys _ _ _ c.objects-item.result c.data-item.result _ c.kids-in-len2-up.result.now c.kids-in-len2-up-2.result.now _ c.in-Keys.is e c.kids-in-len2-up.ensures.kids c.kids-in-len2-up-2.ensures.kids }

pub returns-in-len2-up-clause-drawn : goal.returns-in-len2-up-clause-drawn
returns-in-len2-up-clause-drawn c =
    let e = two_and c.args.kids.now c.objects-item.result c.data-item.result c.in-len2-up.len_at_least c.objects-item.is c.data-item.is in
    (below_kid _ _ _ (first_below _ _ _ _ e c.requires.below) c.kids-in-len2-up.ensures.below, below_kid _ _ _ (second_below _ _ _ _ _ e c.requires.below) c.kids-in-len2-up-2.ensures.below)
