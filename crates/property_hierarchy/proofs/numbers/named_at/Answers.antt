use Rattle.std.proofs.Common.{◌≡◌, true, false, sym, ◌∙◌}
use Rattle.owl_arena.specs.Held.{tree_at}
use Rattle.owl_tree.specs.OrderLaws.{same_tag}
use Rattle.property_hierarchy.proofs.Numbering.{named_there, not_named}
use Rattle.property_hierarchy.proofs.numbers.named_at.Goals as goal

pub returns-then-eq : goal.returns-then-eq
returns-then-eq c =
    named_there c.args.arena.now.trees c.args.id c.named.result c.requires.shared c.requires.id
    (sym c.tag.ensures ∙ (same_tag _ _).0 (sym c.eq.ensures ∙ c.if-eq.true))
    (c.named.ensures.place ∙ c.place.ensures) c.named.ensures.inverted

pub returns-else-eq : goal.returns-else-eq
returns-else-eq c =
    not_named c.args.arena.now.trees (tree_at c.args.arena.now.trees c.args.id)
    (λ e. let no : false ≡ true = sym c.if-eq.false ∙ (c.eq.ensures ∙ (same_tag _ _).1 (c.tag.ensures ∙ e)) in cc)
