use Rattle.owl_tree.specs.Trees.{leaf}
use Rattle.owl_maker.specs.Kept.{numbers_in}
use Rattle.owl_maker.proofs.Acts.{leaf_kids, made_held}
use Rattle.owl_maker.proofs.Stacks.{still_held}
use Rattle.owl_maker.proofs.build.put_leaf.Goals as goal

pub returns-clause-kids : goal.returns-clause-kids
returns-clause-kids c =
    let g = c.make_leaf.ensures.grows in
    let old = c.args.builder.now.arena.trees in
    let new = c.make_leaf.new.builder.arena.trees in
    let form = leaf c.args.tag c.args.atom in
    leaf_kids c.add_kid.result c.in_ok-made.made c.args.is_heavy old new g.more form (numbers_in c.args.stack.now.items) (numbers_in c.add_kid.new.stack.items) c.add_kid.ensures.kids g.trees c.in_ok-made.ensures.some c.in_ok-made.ensures.none c.requires.held

pub returns-clause-held : goal.returns-clause-held
returns-clause-held c =
    let g = c.make_leaf.ensures.grows in
    let old = c.args.builder.now.arena.trees in
    let new = c.make_leaf.new.builder.arena.trees in
    c.add_kid.ensures.held new (made_held new c.in_ok-made.made (leaf c.args.tag c.args.atom) c.in_ok-made.ensures.some) (still_held old new g.more g.trees (numbers_in c.args.stack.now.items) c.requires.held)
