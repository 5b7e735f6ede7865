use Rattle.std.proofs.Common.{rules, ◌++◌, List, ℕ, map, take, ◌+◌, subst}
use Rattle.owl_arena.specs.Held.{trees_at}
use Rattle.owl_tree.specs.Canonical.{canonical}
use Rattle.rdf_normal.specs.Makings.{AreMade}
use Rattle.rdf_normal.specs.NormalForms.{annotation_of}
use Rattle.rdf_normal.proofs.Looping.{mapped_more}
use Rattle.rdf_normal.proofs.own.annotations.Goals as goal

pub own-preserved : goal.own-preserved
own-preserved c =
    subst (λ (ns : List ℕ). AreMade c.args.arena.now.trees c.annotation_of.new.arena.trees ns (trees_at c.args.arena.now.trees c.args.notes.now ++ map (λ t. canonical (annotation_of t)) (trees_at c.args.arena.now.trees (take (c.own.id-index + 1) c.args.own.now)))) (search rules)
    (mapped_more (λ t. canonical (annotation_of t)) c.args.arena.now.trees c.own.arena.trees c.annotation_of.new.arena.trees c.own.made.items (trees_at c.args.arena.now.trees c.args.notes.now) c.args.own.now c.own.id-index c.id-item.result c.in_ok-annotation.annotation c.own.invariant c.requires.own c.own-test.true c.id-item.is c.in_ok-annotation.ensures.made)
