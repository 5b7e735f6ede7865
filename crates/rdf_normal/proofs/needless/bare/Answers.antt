use Rattle.std.proofs.Common.{rules, ap, sym, ◌∙◌, ℕ, List, subst}
use Rattle.std.proofs.lemmas.Result.{IfOk-weaker}
use Rattle.owl_arena.specs.Held.{AreHeld, trees_at, tree_at}
use Rattle.owl_tree.specs.Canonical.{canonical}
use Rattle.owl_tree.specs.Trees.{node, kids_of}
use Rattle.owl_tree.specs.declared.tag.Tag.TheVariants as tag
use Rattle.rdf_normal.proofs.Bare.{bare_over, kids_held, set_held, some_kids}
use Rattle.rdf_normal.proofs.Extending.{made_after, made_at}
use Rattle.rdf_normal.proofs.needless.bare.Goals as goal

pub make-requires-2 : goal.make-requires-2
make-requires-2 c =
    set_held c.args.arena.now.trees c.make.new.arena.trees c.in_ok-kids.kids.items c.in_ok-kids-2.field-0 c.in_ok-kids-2.ensures.made.extends
    (subst (AreHeld c.args.arena.now.trees) (sym c.in_ok-kids.ensures.items) (kids_held c.args.arena.now.trees c.args.id c.kids.result.now c.requires c.kids.ensures.below))
    c.in_ok-kids-2.ensures.made.held

pub returns-clause-made : goal.returns-clause-made
returns-clause-made c =
    let ts = c.args.arena.now.trees in
    let none = c.in_ok-kids-2.ensures.made in
    let held = subst (AreHeld ts) (sym c.in_ok-kids.ensures.items) (kids_held ts c.args.id c.kids.result.now c.requires c.kids.ensures.below) in
    IfOk-weaker c.make-2.result _ _
    (λ id h.
    made_after ts c.make.new.arena.trees c.make-2.new.arena.trees id _ none.extends
    (made_at c.make.new.arena.trees c.make-2.new.arena.trees id _ _
    (ap canonical
    (bare_over ts c.make.new.arena.trees (tree_at ts c.args.id) c.tag-tag.result c.in_ok-kids.kids.items c.in_ok-kids-2.field-0 none.extends held
    (some_kids _ _ c.is_empty.result c.is_empty.ensures c.if-is_empty.false (search rules)) c.tag-tag.ensures
    (ap (trees_at ts) c.in_ok-kids.ensures.items ∙ c.kids.ensures.kids)
    (none.tree ∙ ap (λ (xs : List ℕ). canonical (node tag.Notes (kids_of (trees_at ts xs)))) c.new.ensures.items))) h))
    c.make-2.ensures.made
