use Rattle.std.proofs.Common.{rules, ◌≡◌, ◌<◌, ◌≤◌}
use Rattle.owl_arena.specs.Shared.{deepest}
use Rattle.tree_stores.specs.Stores.{most_of}
use Rattle.tree_stores.proofs.Counting.{node_deep, node_too_deep}
use Rattle.tree_stores.proofs.depths.DepthsTreeStore.hold_node.Goals as goal

pub returns-then-most-lt-DEEPEST-clause-held : goal.returns-then-most-lt-DEEPEST-clause-held
returns-then-most-lt-DEEPEST-clause-held c = λ ts h.
    let most : c.most_of-most.result ≡ most_of c.args.kids.items = search rules in
    let less : c.most_of-most.result < deepest = c.if-most-lt-DEEPEST.true in
    node_deep c.args._tag ts c.args.kids.items c.most_of-most.result h most less

pub returns-clause-fault : goal.returns-clause-fault
returns-clause-fault c = λ ts h.
    let most : c.most_of-most.result ≡ most_of c.args.kids.items = search rules in
    let more : deepest ≤ c.most_of-most.result = c.if-most-lt-DEEPEST.false in
    node_too_deep c.args._tag ts c.args.kids.items c.most_of-most.result h most more
