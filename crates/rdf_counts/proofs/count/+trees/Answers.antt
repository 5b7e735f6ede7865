use Rattle.std.proofs.Common.{List, ℕ, option_map, rules, arith, ap, sym, ◌∙◌, subst}
use Rattle.rdf_meaning.specs.Rows.{row_seen}
use Rattle.rdf_counts.proofs.ArenaLaws.{above_kids, none_left, tag_told}
use Rattle.rdf_counts.proofs.Taking.{TakesOn, node_taken, takes_both, takes_end, takes_front}
use Rattle.rdf_counts.proofs.count.+trees.Goals as goal

pub count_kids-returns : goal.count_kids-returns
count_kids-returns t c =
    let none = none_left c.loop-rest.rest.now c.in_default.len_below in
    takes_end _ _ _ _ (subst (λ (l : List ℕ). TakesOn c.args.arena.now.trees c.args.left c.loop-rest.remaining c.args.kids.now l) none c.loop-rest.invariant.0)

pub count_node-count_kids-requires : goal.count_node-count_kids-requires
count_node-count_kids-requires t c =
    let low = above_kids c.kids-kids.result.now c.args.id c.kids-kids.ensures.below in
    (omega (arith, low), (c.requires.held, c.kids-kids.ensures.below))

pub count_node-returns-in_err-left : goal.count_node-returns-in_err-left
count_node-returns-in_err-left t c =
    node_taken c.args.arena.now.trees c.args.id c.kids-kids.result.now c.tag-tag.result c.in-Some.row _ c.args.left c.from_residual.result c.requires.node c.kids-kids.ensures.kids c.tag-tag.ensures
    (tag_told _ _ _ c.eq.ensures c.if-eq.false) c.node_rows.ensures (ap (option_map row_seen) (sym c.in-Some.is) ∙ c.row_for.ensures)
    (takes_front c.args.left _ _ c.from_residual.result (search rules) (search rules))

pub count_node-returns : goal.count_node-returns
count_node-returns t c =
    node_taken c.args.arena.now.trees c.args.id c.kids-kids.result.now c.tag-tag.result c.in-Some.row _ c.args.left c.count_kids.result c.requires.node c.kids-kids.ensures.kids c.tag-tag.ensures
    (tag_told _ _ _ c.eq.ensures c.if-eq.false) c.node_rows.ensures (ap (option_map row_seen) (sym c.in-Some.is) ∙ c.row_for.ensures)
    (takes_both c.args.left c.in_ok-left.left _ _ c.count_kids.result (search rules) c.count_kids.ensures)
