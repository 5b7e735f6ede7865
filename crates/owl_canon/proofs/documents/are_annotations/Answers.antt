use Rattle.std.proofs.Common.{◌≡◌, sym, ◌∙◌}
use Rattle.std.proofs.lemmas.Bool.{false≢true}
use Rattle.owl_canon.proofs.WholeDocuments.{tree_of_all}
use Rattle.owl_tree.specs.declared.tag.Tag.TheVariants as tag
use Rattle.owl_tree.specs.Trees.{Tree, tag_of}
use Rattle.owl_canon.proofs.documents.are_annotations.Goals as goal

pub returns-then-not-is_annotation : goal.returns-then-not-is_annotation
returns-then-not-is_annotation c = (
  λ h. absurd (false≢true h),
  λ all.
      let this = tree_of_all (λ (t : Tree). tag_of t ≡ tag.Annotation) c.args.arena.now.trees c.args.ids.now c.ids.id-index c.id-item.result c.ids-test.true c.id-item.is all in
      sym c.if-not-is_annotation.true ∙ c.is_annotation.ensures.1 this,
)
