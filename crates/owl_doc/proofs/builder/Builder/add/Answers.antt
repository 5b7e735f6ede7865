use Rattle.std.proofs.Common.{◌<◌, ◌↔◌, IsErrOf, IsTrue, length, sym, subst}
use Rattle.owl_doc.specs.declared.fault.AddFault.TheVariants.{TooHeavy}
use Rattle.owl_doc.specs.Documents.{Document, IsAxiomAt, PassesWeight}
use Rattle.owl_arena.specs.Held.{tree_at}
use Rattle.owl_doc.specs.Kept.{begun_of}
use Rattle.owl_tree.specs.Tags.{is_axiom}
use Rattle.owl_tree.specs.Trees.{tag_of}
use Rattle.owl_doc.proofs.Adding.{axiom_kept, tells_heavy}
use Rattle.owl_doc.proofs.builder.Builder.add.Goals as goal

tag_told : (c : goal.After-collect) → IsTrue (is_axiom (tag_of (tree_at c.self.inside.arena.trees c.args.id)))
tag_told c = cc

pub invariant_of-self : goal.invariant_of-self
invariant_of-self c =
    axiom_kept c.self.inside c.args.id c.weight_of-weight.result c.collect.result _ record {
      held = subst (λ (d : Document). c.args.id < length d.arena.trees) (sym c.self.view_is) c.requires;
      right = record { tag = tag_told c; shaped = c.weight_of-weight.ensures.shaped };
      weighs = c.weight_of-weight.ensures.weight;
    } c.collect.ensures c.self.invariant

pub returns-clause-too_heavy : goal.returns-clause-too_heavy
returns-clause-too_heavy c =
    subst (λ (d : Document). IsErrOf c.collect.result TooHeavy ↔ (IsAxiomAt d c.args.id × PassesWeight d d.axioms c.args.id)) c.self.view_is
    (tells_heavy (begun_of c.self.inside) c.args.id c.weight_of-weight.result _ _ _ (tag_told c) c.self.invariant.weight c.weight_of-weight.ensures.weight c.collect.result c.collect.ensures)
