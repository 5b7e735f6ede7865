use Rattle.std.proofs.Common.{ℕ, ◌-◌, ◌<◌, ◌≤◌, length, List, take, drop, arith, sym, subst}
use Rattle.std.specs.List.{AllByRecursion}
use Rattle.std.proofs.lemmas.Result.{on_ok_weaker}
use Rattle.owl_arena.proofs.HeldLaws.{below_later}
use Rattle.blank_labels.specs.LabelNumbers.{Counts}
use Rattle.rdf_counts.proofs.ArenaLaws.{above_all, above_kids, above_rest, first_and, none_left}
use Rattle.rdf_forward.proofs.Counting.{CountsOn, counts_end, counts_next, kids_counted}
use Rattle.rdf_forward.proofs.labels.+labels.Goals as goal

pub count_tree-count_trees-requires : goal.count_tree-count_trees-requires
count_tree-count_trees-requires t c =
    let low = above_kids c.kids.result.now c.args.id c.kids.ensures.below in
    (omega (arith, low), below_later c.kids.result.now c.args.id _ (omega (arith, c.requires)) c.kids.ensures.below)

pub count_tree-returns-in-None : goal.count_tree-returns-in-None
count_tree-returns-in-None t c = on_ok_weaker c.count_trees.result (λ counts. subst (Counts c.args.numbers.now c.count_trees.new.numbers) (kids_counted _ _ _ c.kids.ensures.kids (sym c.in-None.ensures.atom)) counts) c.count_trees.ensures

pub count_trees-loop-left-preserved : goal.count_trees-loop-left-preserved
count_trees-loop-left-preserved t c =
    let e = first_and c.loop-left.left.now c.id-item.result c.in-len1-up.len_at_least c.id-item.is in
    let on = subst (λ (l : List ℕ). CountsOn c.args.arena.now.trees c.args.numbers.now c.loop-left.numbers c.args.ids.now l) e c.loop-left.invariant.0 in
    let held = (subst (AllByRecursion (λ (k : ℕ). k < length c.args.arena.now.trees)) e c.loop-left.invariant.1).1 in
    let low = subst (λ (l : List ℕ). above_all l ≤ above_all c.args.ids.now) e c.loop-left.invariant.2 in
    let rest = above_rest c.id-item.result (take (length c.loop-left.left.now - 1) (drop 1 c.loop-left.left.now)) in
    (counts_next _ _ _ _ _ _ _ c.in_ok-count_tree.ensures on, held, omega (arith, low, rest))

pub count_trees-returns : goal.count_trees-returns
count_trees-returns t c =
    let none = none_left c.loop-left.left.now c.in_default.len_below in
    counts_end _ _ _ _ (subst (λ (l : List ℕ). CountsOn c.args.arena.now.trees c.args.numbers.now c.loop-left.numbers c.args.ids.now l) none c.loop-left.invariant.0)
