use Rattle.std.proofs.Common.{rules, ap, sym}
use Rattle.owl_arena.specs.Held.{Held}
use Rattle.owl_tree.specs.Canonical.{canonical}
use Rattle.rdf_normal.specs.NormalForms.{bare, is_annotated}
use Rattle.rdf_normal.proofs.Looping.{fails_made, passes_made}
use Rattle.rdf_normal.proofs.needless.bare_forms.Goals.{then-is_annotated+in_ok-form+in_ok-push, else-is_annotated}
use Rattle.rdf_normal.proofs.needless.bare_forms.Goals as goal

pub ids-preserved : goal.ids-preserved
ids-preserved c =
    elim c.if-is_annotated.branch [
      | then-is_annotated+in_ok-form+in_ok-push w ↦
          passes_made (λ t. canonical (bare t)) is_annotated c.args.arena.now.trees c.ids.arena.trees w.bare.new.arena.trees c.if-is_annotated.arena.trees c.ids.forms.items c.args.ids.now c.if-is_annotated.forms.items c.ids.id-index c.id-item.result w.in_ok-form.form c.ids.invariant c.requires c.ids-test.true c.id-item.is (sym w.if-is_annotated.ensures) w.in_ok-form.ensures.made (ap (λ (h : Held). h.trees) w.arena-is) (search rules)
      | else-is_annotated w ↦
          fails_made (λ t. canonical (bare t)) is_annotated c.args.arena.now.trees c.ids.arena.trees c.if-is_annotated.arena.trees c.ids.forms.items c.args.ids.now c.if-is_annotated.forms.items c.ids.id-index c.id-item.result c.ids.invariant c.requires c.ids-test.true c.id-item.is (sym w.if-is_annotated.ensures) (ap (λ (h : Held). h.trees) w.arena-is) (search rules)
    ]
