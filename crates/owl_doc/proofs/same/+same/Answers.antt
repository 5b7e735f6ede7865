use Rattle.std.proofs.Common.{arith, sym, ◌<◌, length}
use Rattle.owl_arena.specs.Held.{tree_at}
use Rattle.owl_list.proofs.AscendingLaws.{all_in, all_later}
use Rattle.owl_doc.proofs.SameTrees.{above_each, above_within, differ_at, same_tree}
use Rattle.owl_doc.proofs.same.+same.Goals as goal

pub are_same_trees-is_same_tree-requires : goal.are_same_trees-is_same_tree-requires
are_same_trees-is_same_tree-requires t c =
    let d = c.index-ids-place.result in
    let e = c.index-other_ids-place.result in
    let ones = length c.args.one.now.trees in
    let others = length c.args.other.now.trees in
    let a = above_each c.args.ids.now c.places.place d c.places-test.true in
    let h = all_in (λ id. id < ones) c.args.ids.now d c.requires.ids (c.places.place, c.places-test.true, sym c.index-ids-place.is) in
    let k = all_in (λ id. id < others) c.args.other_ids.now e c.requires.other_ids (c.places.place, omega arith, sym c.index-other_ids-place.is) in
    (omega arith, (omega arith, omega arith))

pub are_same_trees-returns-then-not-is_same_tree :
    goal.are_same_trees-returns-then-not-is_same_tree
are_same_trees-returns-then-not-is_same_tree t c = (
  λ h. cc,
  λ e. absurd (differ_at (tree_at c.args.one.now.trees) (tree_at c.args.other.now.trees) c.args.ids.now c.args.other_ids.now c.places.place _ _ c.places-test.true (omega arith) c.index-ids-place.is c.index-other_ids-place.is (λ same. let f = c.is_same_tree.ensures.1 same in let g = c.if-not-is_same_tree.true in cc) e),
)

pub is_same_tree-are_same_trees-requires : goal.is_same_tree-are_same_trees-requires
is_same_tree-are_same_trees-requires t c = (
  omega (arith, above_within c.args.id c.kids.result.now c.kids.ensures.below),
  (
    all_later (λ kid. kid < c.args.id) (λ kid. kid < length c.args.one.now.trees) (λ kid h. omega arith) c.kids.result.now c.kids.ensures.below,
    all_later (λ kid. kid < c.args.other_id) (λ kid. kid < length c.args.other.now.trees) (λ kid h. omega arith) c.kids-then-have_same_root.result.now c.kids-then-have_same_root.ensures.below,
  ),
)

pub is_same_tree-returns-then-have_same_root : goal.is_same_tree-returns-then-have_same_root
is_same_tree-returns-then-have_same_root t c =
    same_tree _ _ c.are_same_trees.result _ _ (c.have_same_root.ensures.0 c.if-have_same_root.true) c.kids.ensures.kids c.kids-then-have_same_root.ensures.kids c.are_same_trees.ensures
