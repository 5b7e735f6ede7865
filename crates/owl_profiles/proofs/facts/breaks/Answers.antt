use Rattle.std.proofs.Common.{refl, ap, ◌∙◌}
use Rattle.owl_arena.specs.Held.{tree_at}
use Rattle.profile_sorts.specs.declared.set.SortSet.{SortSet}
use Rattle.profile_sorts.specs.Sets.{has}
use Rattle.owl_profiles.specs.Facts.{closure_in}
use Rattle.owl_profiles.proofs.Judging.{by_chain, by_sort}
use Rattle.owl_profiles.proofs.facts.breaks.Goals as goal

pub returns-in-Sort : goal.returns-in-Sort
returns-in-Sort c = λ o.
    let facts = c.args.facts.now in
    by_sort (closure_in facts) o (tree_at facts.arena.now.trees c.args.id) c.args.rule _ _ c.in-Sort.sort c.has.result c.in-Sort.is
    (c.has.ensures ∙ (ap (λ (set : SortSet). has set c.in-Sort.sort) c.set_at.ensures ∙ (c.requires.facts.sets.told c.args.id c.requires.held).each c.in-Sort.sort)) refl

pub returns-in-ChainRanges : goal.returns-in-ChainRanges
returns-in-ChainRanges c = λ o.
    let facts = c.args.facts.now in
    by_chain (closure_in facts) o (tree_at facts.arena.now.trees c.args.id) c.args.rule _ facts.lacking.now c.place.result c.args.id c.in-ChainRanges.is
    (c.requires.facts.lacking c.in-ChainRanges.is c.args.id c.requires.axiom) c.place.ensures c.has_mark.ensures
