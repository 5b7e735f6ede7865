use Rattle.std.proofs.Common.{◌∙◌, ap, subst, sym}
use Rattle.std.specs.List.{filter_map}
use Rattle.owl_doc.specs.Entities.{AddsAll, AddsSome}
use Rattle.owl_doc.proofs.Declaring.{on_err}
use Rattle.man_raw.specs.Documents.{DocumentTree}
use Rattle.man_resolve.specs.Items.{frame_entities, frame_entity}
use Rattle.man_resolve.proofs.DocumentLaws.{all_declared, one_more_declared, some_declared}
use Rattle.man_resolve.proofs.declarations.declared.Goals as goal

pub returns-in_err-declare-clause-err : goal.returns-in_err-declare-clause-err
returns-in_err-declare-clause-err c =
    let items = c.deref-item-items in
    let same = items.ensures.value ∙ ap (λ (d : DocumentTree). d.items) c.raw.view_is in
    let some = subst (λ us. AddsSome c.args.kinds.now (filter_map frame_entity us) c.items.kinds) same (some_declared items.result.now c.items.item-index c.args.kinds.now c.items.kinds c.items.invariant) in
    on_err _ c.from_residual.result (subst (AddsSome c.args.kinds.now (frame_entities c.args.raw.now)) (sym c.in_err-declare.ensures.err) some)

pub items-preserved : goal.items-preserved
items-preserved c =
    one_more_declared c.deref-item-items.result.now c.items.item-index c.args.kinds.now c.items.kinds c.items.invariant c.item-item.result c.declare.new.kinds c.items-test.true c.item-item.is c.in_ok-declare.ensures.ok

pub returns-clause-ok : goal.returns-clause-ok
returns-clause-ok c =
    let items = c.deref-item-items in
    let same = items.ensures.value ∙ ap (λ (d : DocumentTree). d.items) c.raw.view_is in
    subst (λ us. AddsAll c.args.kinds.now (filter_map frame_entity us) c.items.kinds) same (all_declared items.result.now c.items.item-index c.args.kinds.now c.items.kinds c.items.invariant c.items-test.false)
