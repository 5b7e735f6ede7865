use Rattle.std.proofs.Common.{◌++◌, ◌≡◌, ◌≤◌, Result, Ok, Err, inr, subst}
use Rattle.std.specs.Prelude.{IfOk, OnOk}
use Rattle.std.proofs.lemmas.Result.{IfErr-weaker}
use Rattle.owl_arena.specs.Shared.{heaviest}
use Rattle.owl_doc.specs.Documents.{Document, ontology_of}
use Rattle.owl_tree.specs.Ontologies.{Ontology, canonical_ontology, ontology_weight}
use Rattle.man_resolve.specs.declared.fault.ResolveFault.{ResolveFault}
use Rattle.man_resolve.specs.Limits.{IsWithin, ontology_at, ontology_made, too_deep}
use Rattle.man_resolve.specs.Making.{IsFaultAmong, trees_of}
use Rattle.man_resolve.proofs.LimitLaws.{annotations_there, are_held, axioms_there, some_deep, some_heavy, weight_fault, within}
use Rattle.man_resolve.proofs.resolving.make_document.Goals as goal

pub finish-requires-clause-annotations : goal.finish-requires-clause-annotations
finish-requires-clause-annotations c = are_held c.make_both.new.store.trees (trees_of c.args.notes.now) c.in-Ok.made.notes.items c.in-Ok.ensures.made.notes_stand

pub finish-requires-clause-axioms : goal.finish-requires-clause-axioms
finish-requires-clause-axioms c = are_held c.make_both.new.store.trees (trees_of c.args.axioms.now) c.in-Ok.made.axioms.items c.in-Ok.ensures.made.axioms_stand

pub finish-requires-clause-are_annotations : goal.finish-requires-clause-are_annotations
finish-requires-clause-are_annotations c =
    annotations_there c.make_both.new.store.trees (trees_of c.args.notes.now) c.in-Ok.made.notes.items c.in-Ok.ensures.made.notes_stand c.requires.are_annotations

pub finish-requires-clause-are_axioms : goal.finish-requires-clause-are_axioms
finish-requires-clause-are_axioms c =
    axioms_there c.make_both.new.store.trees (trees_of c.args.axioms.now) c.in-Ok.made.axioms.items c.in-Ok.ensures.made.axioms_stand c.requires.are_axioms

within_limits : (o p : Ontology) (r : Result Document ResolveFault) → ((q : Ontology) → q ≡ canonical_ontology p → ontology_weight p ≤ heaviest → IsWithin o q) → IfOk r (λ doc. ontology_of doc ≡ canonical_ontology p) →
    OnOk r (ontology_weight p ≤ heaviest) → IfOk r (λ doc. IsWithin o (ontology_of doc))
within_limits o p (Ok doc) so e light = so (ontology_of doc) e light
within_limits o p (Err f) so e light = tt

pub returns-in-Ok-clause-said : goal.returns-in-Ok-clause-said
returns-in-Ok-clause-said c =
    let head = c.args.raw.now.head in
    let trees = c.make_both.new.store.trees in
    let made = c.in-Ok.made in
    within_limits (ontology_made head c.args.notes.now c.args.axioms.now) (ontology_at head trees made.notes.items made.axioms.items) c.finish.result
    (within head c.args.notes.now c.args.axioms.now trees made.notes.items made.axioms.items c.in-Ok.ensures.made c.fits.ensures) c.finish.ensures.ontology c.finish.ensures.light

pub returns-in-Ok-clause-fault : goal.returns-in-Ok-clause-fault
returns-in-Ok-clause-fault c =
    let made = c.in-Ok.made in
    IfErr-weaker c.finish.result _ _ (weight_fault c.args.raw.now.head c.args.notes.now c.args.axioms.now c.make_both.new.store.trees made.notes.items made.axioms.items c.in-Ok.ensures.made c.fits.ensures) c.finish.ensures.fault

pub returns-in-Err-TooDeep-clause-fault : goal.returns-in-Err-TooDeep-clause-fault
returns-in-Err-TooDeep-clause-fault c =
    let o = ontology_made c.args.raw.now.head c.args.notes.now c.args.axioms.now in
    inr (too_deep (some_deep o (subst (IsFaultAmong (trees_of c.args.notes.now ++ trees_of c.args.axioms.now)) c.in-Err-TooDeep.field-0-is c.in-Err-TooDeep.ensures.fault)))

pub fault_of_heavy-requires : goal.fault_of_heavy-requires
fault_of_heavy-requires c =
    let o = ontology_made c.args.raw.now.head c.args.notes.now c.args.axioms.now in
    some_heavy o (subst (IsFaultAmong (trees_of c.args.notes.now ++ trees_of c.args.axioms.now)) c.in-Err-TooHeavy.field-0-is c.in-Err-TooHeavy.ensures.fault)
