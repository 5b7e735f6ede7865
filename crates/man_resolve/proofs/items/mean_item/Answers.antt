use Rattle.std.proofs.Common.{◌∙◌, ap, subst}
use Rattle.std.specs.List.{flat_map}
use Rattle.owl_characters.proofs.ResultLaws.{passed}
use Rattle.man_raw.specs.Documents.{ItemTree}
use Rattle.man_resolve.specs.Building.{AddsAll, AddsTree, IsFaultOf, leaves}
use Rattle.man_resolve.specs.Expressions.{after, knows}
use Rattle.man_resolve.specs.Items.{axiom_of, declaration_of}
use Rattle.man_resolve.proofs.BuildingLaws.{all_left}
use Rattle.man_resolve.proofs.ItemLaws.{item_means, more_added, one_added, one_each, one_failed, ones_added}
use Rattle.man_resolve.proofs.items.mean_item.Goals as goal

pub loop-part-init : goal.loop-part-init
loop-part-init c =
    let rest = one_each (axiom_of (knows c.args.kinds.now) c.args.item.now.heading (leaves c.in_ok-subject.subject)) c.deref-part-items.result.now in
    let said = flat_map declaration_of (leaves c.in_ok-subject.subject) in
    more_added c.args.steps.now.items c.args.steps.now.items c.add_declaration.new.steps.items (after said rest) rest said (all_left c.args.steps.now.items (after said rest)) c.in_ok-add_declaration.ensures

pub loop-part-preserved : goal.loop-part-preserved
loop-part-preserved c =
    let means = axiom_of (knows c.args.kinds.now) c.args.item.now.heading (leaves c.in_ok-subject.subject) in
    let all = after (flat_map declaration_of (leaves c.in_ok-subject.subject)) (one_each means c.deref-part-items.result.now) in
    one_added means all c.deref-part-items.result.now c.loop-part.part-index c.part-item.result c.args.steps.now.items c.loop-part.steps.items c.loop-part-test.true c.part-item.is c.loop-part.invariant c.mean_axiom.new.steps.items
    (subst (λ h. AddsTree c.loop-part.steps.items c.mean_axiom.new.steps.items (axiom_of (knows c.args.kinds.now) h (leaves c.in_ok-subject.subject) c.part-item.result)) (ap (λ (i : ItemTree). i.heading) c.item.view_is) c.in_ok-mean_axiom.ensures.added)

pub returns-in_err-mean_axiom-clause-fault : goal.returns-in_err-mean_axiom-clause-fault
returns-in_err-mean_axiom-clause-fault c =
    let means = axiom_of (knows c.args.kinds.now) c.args.item.now.heading (leaves c.in_ok-subject.subject) in
    let items = c.deref-part-items in
    let all = after (flat_map declaration_of (leaves c.in_ok-subject.subject)) (one_each means items.result.now) in
    let whole = item_means (knows c.args.kinds.now) c.args.item.now (leaves c.in_ok-subject.subject) items.result.now c.in_ok-subject.ensures.subject (items.ensures.value ∙ ap (λ (i : ItemTree). i.parts) c.item.view_is) in
    let fault = c.in_err-mean_axiom.field-0.0 in
    passed c.from_residual-in_err-mean_axiom.result fault _ c.from_residual-in_err-mean_axiom.ensures.1
    (subst (λ w. IsFaultOf w fault) whole
    (one_failed means all items.result.now c.loop-part.part-index c.part-item.result c.args.steps.now.items c.loop-part.steps.items c.loop-part-test.true c.part-item.is c.loop-part.invariant fault
    (subst (λ h. IsFaultOf (axiom_of (knows c.args.kinds.now) h (leaves c.in_ok-subject.subject) c.part-item.result) fault) (ap (λ (i : ItemTree). i.heading) c.item.view_is) c.in_err-mean_axiom.ensures.fault)))

pub returns-clause-added : goal.returns-clause-added
returns-clause-added c =
    let means = axiom_of (knows c.args.kinds.now) c.args.item.now.heading (leaves c.in_ok-subject.subject) in
    let items = c.deref-part-items in
    let all = after (flat_map declaration_of (leaves c.in_ok-subject.subject)) (one_each means items.result.now) in
    let whole = item_means (knows c.args.kinds.now) c.args.item.now (leaves c.in_ok-subject.subject) items.result.now c.in_ok-subject.ensures.subject (items.ensures.value ∙ ap (λ (i : ItemTree). i.parts) c.item.view_is) in
    subst (AddsAll c.args.steps.now.items c.loop-part.steps.items) whole
    (ones_added means all items.result.now c.loop-part.part-index c.args.steps.now.items c.loop-part.steps.items c.loop-part-test.false c.loop-part.invariant)
