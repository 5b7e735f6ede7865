use Rattle.std.proofs.Common.{inl, inr, length, sym, ◌∙◌}
use Rattle.std.proofs.lemmas.Bool.{eqb-true}
use Rattle.std.proofs.lemmas.List.{nil_from_length}
use Rattle.rdf_normal.proofs.Unchanged.{not_notes, tree_further}
use Rattle.rdf_normal.proofs.staying.is_tidy.Goals as goal

pub returns-then-not-is_notes : goal.returns-then-not-is_notes
returns-then-not-is_notes c =
    λ other. tree_further c.args.arena.now.trees c.args.id c.kids-kids.result.now c.distinct-trees.ensures.shared c.requires.id c.kids-kids.ensures.kids c.kids-kids.ensures.below c.requires.before (inl (not_notes c.is_notes.result c.tag.result _ c.is_notes.ensures c.tag.ensures other))

pub returns-else-not-is_notes : goal.returns-else-not-is_notes
returns-else-not-is_notes c =
    λ empty. tree_further c.args.arena.now.trees c.args.id c.kids-kids.result.now c.distinct-trees.ensures.shared c.requires.id c.kids-kids.ensures.kids c.kids-kids.ensures.below c.requires.before (inr (nil_from_length c.kids-kids.result.now (eqb-true (length c.kids-kids.result.now) 0 (sym c.is_empty.ensures ∙ empty))))
