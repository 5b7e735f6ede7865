use Rattle.std.proofs.Common.{◌≡◌, [], ◌∷◌, ◌++◌, length, sym, ap, ◌∙◌, rules, arith}
use Rattle.owl_arena.specs.Held.{Held}
use Rattle.owl_arena.specs.Nodes.{grown}
use Rattle.owl_arena.proofs.Found.{MayCome, arena_more, new_here, trees_more}
use Rattle.owl_arena.proofs.Grown.{long_as_nodes}
use Rattle.owl_arena.proofs.arena.Arena.append.Goals as goal

pub at-id-requires : goal.at-id-requires
at-id-requires c =
    let long = long_as_nodes _ c.self.inside.table.nodes.items (ap (λ (held : Held). held.trees) c.self.view_is) in
    let place : c.len.result ≡ length c.self.inside.table.nodes.items = search rules in
    omega arith

pub push-requires-clause-few : goal.push-requires-clause-few
push-requires-clause-few c =
    let long = long_as_nodes _ c.self.inside.table.nodes.items (ap (λ (held : Held). held.trees) c.self.view_is) in
    let place : c.len.result ≡ length c.self.inside.table.nodes.items = search rules in
    omega arith

pub invariant_of-self-2 : goal.invariant_of-self-2
invariant_of-self-2 c =
    let seen : grown [] c.self.inside.table.nodes.items ≡ c.args.self.now.trees = ap (λ (held : Held). held.trees) c.self.view_is in
    let items : c.push.new.self.nodes.items ≡ c.self.inside.table.nodes.items ++ c.args.node ∷ [] = search rules in
    let may : MayCome c.args.self.now.trees c.args.node = record { below = c.requires.below; measured = c.requires.measured; entry = c.requires.entry; absent = c.requires.absent } in
    arena_more _ _ _ c.args.node seen items c.self.invariant may c.requires.few

pub returns-clause-id : goal.returns-clause-id
returns-clause-id c =
    let seen : grown [] c.self.inside.table.nodes.items ≡ c.args.self.now.trees = ap (λ (held : Held). held.trees) c.self.view_is in
    let items : c.push.new.self.nodes.items ≡ c.self.inside.table.nodes.items ++ c.args.node ∷ [] = search rules in
    let place : c.at-id.result ≡ length c.self.inside.table.nodes.items = search rules in
    new_here c.args.self.now.trees _ _ _ (trees_more _ _ _ c.args.node seen items) (place ∙ sym (long_as_nodes _ _ seen))

pub returns-clause-added : goal.returns-clause-added
returns-clause-added c =
    let seen : grown [] c.self.inside.table.nodes.items ≡ c.args.self.now.trees = ap (λ (held : Held). held.trees) c.self.view_is in
    let items : c.push.new.self.nodes.items ≡ c.self.inside.table.nodes.items ++ c.args.node ∷ [] = search rules in
    trees_more _ _ _ c.args.node seen items
