use Rattle.std.proofs.Common.{◌≡◌, ◌∙◌, Ok, ap, subst}
use Rattle.std.specs.List.{flat_map}
use Rattle.std.proofs.lemmas.Result.{IfErr-weaker, on_ok_weaker}
use Rattle.owl_characters.proofs.ResultLaws.{passed}
use Rattle.man_raw.specs.Documents.{DocumentTree}
use Rattle.man_resolve.specs.Building.{AddsAll, IsFaultOf}
use Rattle.man_resolve.specs.Expressions.{all_of, knows}
use Rattle.man_resolve.specs.Items.{annotations_of, axioms_of}
use Rattle.man_resolve.specs.Making.{trees_of}
use Rattle.man_resolve.proofs.AxiomLaws.{are_annotations, are_axioms}
use Rattle.man_resolve.proofs.DocumentLaws.{axioms_failed, document_meant, notes_failed, trees_meant}
use Rattle.man_resolve.proofs.document.mean_document.Goals as goal

pub returns-in_err-mean_notes-clause-fault : goal.returns-in_err-mean_notes-clause-fault
returns-in_err-mean_notes-clause-fault c =
    let ks = knows c.args.kinds.now in
    let fault = c.in_err-mean_notes.field-0.0 in
    let same = c.deref.ensures.value ∙ ap (λ (d : DocumentTree). d.notes) c.raw.view_is in
    passed c.from_residual.result fault _ c.from_residual.ensures.1
    (notes_failed ks c.args.raw.now fault (subst (λ bs. IsFaultOf (all_of (flat_map (annotations_of ks) bs)) fault) same c.in_err-mean_notes.ensures.fault))

pub returns-clause-made : goal.returns-clause-made
returns-clause-made c =
    let ks = knows c.args.kinds.now in
    let ns = c.mean_notes.new.steps.items in
    let ms = c.mean_items.new.steps.items in
    let blocks = c.deref.ensures.value ∙ ap (λ (d : DocumentTree). d.notes) c.raw.view_is in
    let items = c.deref-2.ensures.value ∙ ap (λ (d : DocumentTree). d.items) c.raw.view_is in
    let notes : all_of (flat_map (annotations_of ks) c.args.raw.now.notes) ≡ Ok (trees_of ns) =
    trees_meant c.args.notes.now.items ns (all_of (flat_map (annotations_of ks) c.args.raw.now.notes)) c.requires.notes
    (subst (λ bs. AddsAll c.args.notes.now.items ns (all_of (flat_map (annotations_of ks) bs))) blocks c.in_ok-mean_notes.ensures.added) in
    on_ok_weaker c.mean_items.result
    (λ adds.
    document_meant ks c.args.raw.now ns ms notes
    (trees_meant c.args.axioms.now.items ms (all_of (flat_map (axioms_of ks) c.args.raw.now.items)) c.requires.axioms
    (subst (λ is. AddsAll c.args.axioms.now.items ms (all_of (flat_map (axioms_of ks) is))) items adds)))
    c.mean_items.ensures.added

pub returns-clause-are_annotations : goal.returns-clause-are_annotations
returns-clause-are_annotations c =
    let ks = knows c.args.kinds.now in
    let ns = c.mean_notes.new.steps.items in
    let notes = trees_meant c.args.notes.now.items ns (all_of (flat_map (annotations_of ks) c.deref.result.now)) c.requires.notes c.in_ok-mean_notes.ensures.added in
    on_ok_weaker c.mean_items.result (λ adds. are_annotations ks c.deref.result.now (trees_of ns) notes) c.mean_items.ensures.added

pub returns-clause-are_axioms : goal.returns-clause-are_axioms
returns-clause-are_axioms c =
    let ks = knows c.args.kinds.now in
    let ms = c.mean_items.new.steps.items in
    on_ok_weaker c.mean_items.result
    (λ adds. are_axioms ks c.deref-2.result.now (trees_of ms) (trees_meant c.args.axioms.now.items ms (all_of (flat_map (axioms_of ks) c.deref-2.result.now)) c.requires.axioms adds))
    c.mean_items.ensures.added

pub returns-clause-fault : goal.returns-clause-fault
returns-clause-fault c =
    let ks = knows c.args.kinds.now in
    let ns = c.mean_notes.new.steps.items in
    let blocks = c.deref.ensures.value ∙ ap (λ (d : DocumentTree). d.notes) c.raw.view_is in
    let items = c.deref-2.ensures.value ∙ ap (λ (d : DocumentTree). d.items) c.raw.view_is in
    let notes : all_of (flat_map (annotations_of ks) c.args.raw.now.notes) ≡ Ok (trees_of ns) =
    trees_meant c.args.notes.now.items ns (all_of (flat_map (annotations_of ks) c.args.raw.now.notes)) c.requires.notes
    (subst (λ bs. AddsAll c.args.notes.now.items ns (all_of (flat_map (annotations_of ks) bs))) blocks c.in_ok-mean_notes.ensures.added) in
    IfErr-weaker c.mean_items.result _ _
    (λ fault h. axioms_failed ks c.args.raw.now (trees_of ns) fault notes (subst (λ is. IsFaultOf (all_of (flat_map (axioms_of ks) is)) fault) items h))
    c.mean_items.ensures.fault
