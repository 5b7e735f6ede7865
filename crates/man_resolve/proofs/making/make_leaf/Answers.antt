use Rattle.std.proofs.Common.{◌++◌, ◌∷◌, [], subst, sym}
use Rattle.owl_tree.specs.Trees.{leaf}
use Rattle.tree_stores.specs.Stores.{StandFor}
use Rattle.man_resolve.proofs.MakingLaws.{leaf_stands}
use Rattle.man_resolve.proofs.making.make_leaf.Goals as goal

pub returns-clause-made : goal.returns-clause-made
returns-clause-made g c = λ ts h.
    let Old = g.S.TreeStore.stands c.args.store.now in
    let New = g.S.TreeStore.stands c.hold_leaf.new.self in
    let one = leaf c.args.tag c.args.atom in
    subst (StandFor New (ts ++ one ∷ [])) (sym c.in_ok-push.ensures)
    (leaf_stands Old New c.in_ok-number.ensures.kept ts c.args.numbers.now.items h c.in_ok-number.number one c.in_ok-number.ensures.held)
