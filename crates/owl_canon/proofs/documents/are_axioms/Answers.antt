use Rattle.std.specs.Prelude.{IsTrue}
use Rattle.std.proofs.lemmas.Bool.{false≢true}
use Rattle.owl_canon.proofs.WholeDocuments.{tree_of_all}
use Rattle.owl_tree.specs.Tags.{is_axiom}
use Rattle.owl_tree.specs.Trees.{Tree, tag_of}
use Rattle.owl_canon.proofs.documents.are_axioms.Goals as goal

pub returns-then-not-is_axiom : goal.returns-then-not-is_axiom
returns-then-not-is_axiom c = (
  λ h. absurd (false≢true h),
  λ all.
      let this = tree_of_all (λ (t : Tree). IsTrue (is_axiom (tag_of t))) c.args.arena.now.trees c.args.ids.now c.ids.id-index c.id-item.result c.ids-test.true c.id-item.is all in
      let found = c.is_axiom.ensures in
      let tag = c.tag.ensures in
      let not = c.if-not-is_axiom.true in
      cc,
)
