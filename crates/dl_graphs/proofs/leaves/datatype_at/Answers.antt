use Rattle.std.proofs.Common.{◌∙◌, sym}
use Rattle.owl_arena.specs.Held.{tree_at}
use Rattle.dl_graphs.proofs.DefinitionLaws.{named_by_tag, none_by_tag}
use Rattle.owl_tree.proofs.TagLaws.{tags_differ}
use Rattle.owl_tree.proofs.ShapeTestLaws.{tag_told}
use Rattle.dl_graphs.proofs.leaves.datatype_at.Goals as goal

pub returns-then-eq : goal.returns-then-eq
returns-then-eq c =
    c.iri_at.ensures ∙ sym (named_by_tag (tree_at c.args.arena.now.trees c.args.id) (sym c.tag.ensures ∙ (tag_told _ _ _ c.eq.ensures).0 c.if-eq.true))

pub returns-else-eq : goal.returns-else-eq
returns-else-eq c = sym (none_by_tag (tree_at c.args.arena.now.trees c.args.id) (λ e. tags_differ _ _ _ c.eq.ensures c.if-eq.false (c.tag.ensures ∙ e)))
