use Rattle.std.proofs.Common.{rules, ◌≡◌, ap}
use Rattle.owl_tree.specs.OrderLaws.{only_equal_trees_tie}
use Rattle.rdf_forward.proofs.Bare.{greater_told, same_ties}
use Rattle.owl_arena.specs.Held.{tree_at}
use Rattle.rdf_forward.proofs.groups.compare_trees.Goals as goal

pub returns-then-eq : goal.returns-then-eq
returns-then-eq c = same_ties _ _ (ap (tree_at c.args.arena.now.trees) (search (rules, c.eq.ensures, c.if-eq.true)))

pub returns-else-before : goal.returns-else-before
returns-else-before c =
    let apart : c.args.a ≡ c.args.b → ⊥ = search (rules, c.eq.ensures, c.if-eq.false) in
    greater_told _ (search (rules, c.before-2.ensures, c.if-before.false)) (λ e. apart (c.distinct.ensures.shared.one_number c.args.a c.args.b c.requires.a c.requires.b (only_equal_trees_tie _ _ e)))
