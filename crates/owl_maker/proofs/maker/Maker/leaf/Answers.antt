use Rattle.std.proofs.Common.{◌≡◌, ◌<◌, ap, ◌∙◌, arith, length, map, refl}
use Rattle.std.specs.Prelude.{option_map}
use Rattle.std.proofs.lemmas.Result.{on_err_weaker}
use Rattle.owl_arena.specs.Held.{tree_at, trees_at}
use Rattle.owl_arena.specs.Shared.{deepest}
use Rattle.owl_maker.specs.Kept.{making_of, numbers_in, outlines_in}
use Rattle.owl_maker.specs.Makings.{Making}
use Rattle.owl_maker.proofs.Acts.{in_hand_still, leaf_added, outlines_long}
use Rattle.owl_maker.proofs.Stacks.{same_item, same_numbers}
use Rattle.owl_maker.proofs.maker.Maker.leaf.Goals as goal

pub returns-clause-added : goal.returns-clause-added
returns-clause-added c =
    let i = c.self.inside in
    let g = c.put_leaf.ensures.grows in
    let new : Making = making_of record { alloc = i.alloc; builder = c.put_leaf.new.builder; stack = c.put_leaf.new.stack; item = i.item; is_heavy = i.is_heavy } in
    let item = same_item i.builder.arena.trees c.put_leaf.new.builder.arena.trees g.more g.trees i.item c.self.invariant.item in
    let room : length (outlines_in i.stack.items) < deepest = omega (arith, outlines_long i.stack.items) in
    leaf_added c.put_leaf.result c.args.self.now (making_of i) new c.args.tag c.args.atom c.self.view_is c.put_leaf.ensures.outlines c.put_leaf.ensures.kids item refl room c.requires.shaped

pub returns-clause-err : goal.returns-clause-err
returns-clause-err c =
    let i = c.self.inside in
    let old = i.builder.arena.trees in
    let new = c.put_leaf.new.builder.arena.trees in
    let g = c.put_leaf.ensures.grows in
    let before = numbers_in i.stack.items in
    let after = numbers_in c.put_leaf.new.stack.items in
    on_err_weaker c.put_leaf.result
    (λ (same : (outlines_in c.put_leaf.new.stack.items ≡ outlines_in i.stack.items) × (after ≡ before)).
    in_hand_still i.builder c.put_leaf.new.builder c.args.self.now (outlines_in i.stack.items) (outlines_in c.put_leaf.new.stack.items) (map (trees_at old) before) (map (trees_at new) after) (option_map (tree_at old) i.item) (option_map (tree_at new) i.item) i.is_heavy c.self.view_is same.0
    (ap (map (trees_at new)) same.1 ∙ same_numbers old new g.more g.trees before c.self.invariant.kids)
    (same_item old new g.more g.trees i.item c.self.invariant.item))
    c.put_leaf.ensures.err
