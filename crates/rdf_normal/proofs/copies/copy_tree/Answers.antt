use Rattle.std.proofs.Common.{rules, ◌<◌, subst, sym}
use Rattle.std.specs.List.{AllByRecursion}
use Rattle.std.proofs.lemmas.Result.{on_ok_weaker}
use Rattle.owl_arena.proofs.HeldLaws.{entry_at}
use Rattle.owl_tree.specs.Shape.{IsShaped}
use Rattle.rdf_normal.proofs.Copying.{copied_one, leaf_is, node_copied}
use Rattle.rdf_normal.proofs.copies.copy_tree.Goals as goal

pub add_leaf-requires : goal.add_leaf-requires
add_leaf-requires c = subst IsShaped (sym (leaf_is _ _ _ c.tag-tag.ensures (search rules))) (entry_at c.args.arena.now.trees c.args.id c.requires.shared c.requires.id).shaped

pub returns-in_ok-copy-in-Some-clause-copied : goal.returns-in_ok-copy-in-Some-clause-copied
returns-in_ok-copy-in-Some-clause-copied c =
    on_ok_weaker c.add_leaf.result
    (copied_one c.args.arena.now.trees c.args.copy.now.trees c.add_leaf.new.arena.trees c.args.id _ c.requires.shared c.requires.id c.requires.before (leaf_is _ _ _ c.tag-tag.ensures (search rules)))
    c.add_leaf.ensures.added

pub returns-in_ok-_id-in-None-clause-copied : goal.returns-in_ok-_id-in-None-clause-copied
returns-in_ok-_id-in-None-clause-copied c =
    copied_one c.args.arena.now.trees c.args.copy.now.trees c.make.new.arena.trees c.args.id _ c.requires.shared c.requires.id c.requires.before
    (node_copied c.args.arena.now.trees c.args.copy.now.trees c.args.id c.tag-tag.result c.in_ok-kids-in-None.kids.items c.requires.shared c.requires.id c.requires.before c.tag-tag.ensures (search rules) (search rules) (subst (AllByRecursion (λ k. k < c.args.id)) (sym c.in_ok-kids-in-None.ensures.items) c.kids.ensures.below))
    c.in_ok-_id-in-None.ensures.added
