use Rattle.std.proofs.Common.{List, ap, sym, ◌∙◌}
use Rattle.man_resolve.specs.Expressions.{knows}
use Rattle.man_text.specs.Blocks.{block_with}
use Rattle.owl_tree.specs.declared.tag.Tag.{Tag}
use Rattle.owl_tree.specs.declared.tag.Tag.TheVariants as tag
use Rattle.owl_tree.specs.Trees.{Tree}
use Rattle.man_write.specs.Parts.{kids_at}
use Rattle.man_write.proofs.plan.plan_of.Goals as goal

pub returns-in-Declaration-clause-plan : goal.returns-in-Declaration-clause-plan
returns-in-Declaration-clause-plan c =
    let k = knows c.args.kinds.now in
    let trees = c.args.arena.now.trees in
    c.declared.ensures.plan k
    ∙ ap (λ (ts : List Tree). block_with k tag.Declaration ts) c.written-kids.ensures.kids
    ∙ ap (λ (t : Tag). block_with k t (kids_at trees c.args.id)) (sym c.in-Declaration.is ∙ c.tag-tag.ensures)
