use Rattle.std.proofs.Common.{◌≡◌, ◌<◌, ◌↔◌, IsErrOf, length, sym, subst}
use Rattle.owl_doc.specs.declared.fault.AddFault.TheVariants.{TooHeavy}
use Rattle.owl_doc.specs.Documents.{Document, IsAnnotationAt, PassesWeight}
use Rattle.owl_arena.specs.Held.{tree_at}
use Rattle.owl_doc.specs.Kept.{begun_of}
use Rattle.owl_tree.specs.declared.tag.Tag.TheVariants as tag
use Rattle.owl_tree.specs.Trees.{tag_of}
use Rattle.owl_doc.proofs.Adding.{note_kept, tells_heavy}
use Rattle.owl_doc.proofs.builder.Builder.annotate.Goals as goal

tag_told : (c : goal.After-collect) → tag_of (tree_at c.self.inside.arena.trees c.args.id) ≡ tag.Annotation
tag_told c = c.is_annotation.ensures.0 c.if-not-is_annotation.false

pub invariant_of-self : goal.invariant_of-self
invariant_of-self c =
    note_kept c.self.inside c.args.id c.weight_of-weight.result c.collect.result _ record {
      held = subst (λ (d : Document). c.args.id < length d.arena.trees) (sym c.self.view_is) c.requires;
      right = record { tag = tag_told c; shaped = c.weight_of-weight.ensures.shaped };
      weighs = c.weight_of-weight.ensures.weight;
    } c.collect.ensures c.self.invariant

pub returns-clause-too_heavy : goal.returns-clause-too_heavy
returns-clause-too_heavy c =
    subst (λ (d : Document). IsErrOf c.collect.result TooHeavy ↔ (IsAnnotationAt d c.args.id × PassesWeight d d.notes c.args.id)) c.self.view_is
    (tells_heavy (begun_of c.self.inside) c.args.id c.weight_of-weight.result _ _ _ (tag_told c) c.self.invariant.weight c.weight_of-weight.ensures.weight c.collect.result c.collect.ensures)
