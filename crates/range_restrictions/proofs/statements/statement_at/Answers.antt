use Rattle.std.proofs.Common.{◌∙◌}
use Rattle.dl_rules.specs.Logical.{operands}
use Rattle.owl_arena.specs.Held.{tree_at}
use Rattle.owl_tree.specs.Trees.{tag_of}
use Rattle.range_restrictions.proofs.Stating.{other_says_none}
use Rattle.range_restrictions.proofs.statements.statement_at.Goals as goal

pub returns-in_default : goal.returns-in_default
returns-in_default c =
    let t = tree_at c.args.arena.now.trees c.args.id in
    other_says_none c.args.arena.now.trees (tag_of t) (operands t)
    (λ sub. c.in_default.not-SubObjectPropertyOf (c.tag.ensures ∙ sub)) (λ range. c.in_default.not-ObjectPropertyRange (c.tag.ensures ∙ range))
