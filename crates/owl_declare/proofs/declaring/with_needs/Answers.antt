use Rattle.std.proofs.Common.{◌≤◌, ◌<◌, ◌∙◌, ap, map, subst}
use Rattle.std.proofs.lemmas.Result.{IfOk-weaker, on_ok_weaker}
use Rattle.owl_arena.specs.Held.{Held}
use Rattle.owl_arena.specs.Shared.{heaviest}
use Rattle.owl_doc.specs.Documents.{Document}
use Rattle.owl_tree.specs.Ontologies.{Ontology, canonical_ontology, ontology_weight}
use Rattle.owl_declare.proofs.DeclaringLaws.{axioms_stand, form_is, notes_stand, prepared}
use Rattle.owl_declare.specs.Needed.{entity_of}
use Rattle.owl_declare.proofs.declaring.with_needs.Goals as goal

pub assemble-requires-clause-are_annotations : goal.assemble-requires-clause-are_annotations
assemble-requires-clause-are_annotations c =
    notes_stand _ _ _ _ _ _ _ _ _
    (prepared (map entity_of c.args.needs.now) c.args.doc.now c.in-Ok.arena.trees c.declare_each.new.arena.trees c.head.result.now c.in_ok-head.head c.notes.result.now c.in-Ok-declare_each.axioms.items c.deref.result.now c.axioms.result.now c.notes.ensures.document c.head.ensures.head c.in_ok-head.ensures (c.in-Ok.ensures.trees ∙ ap (λ (a : Held). a.trees) c.arena.ensures) c.notes.ensures.notes c.axioms.ensures.axioms c.deref.ensures.value c.in-Ok-declare_each.ensures.made)

pub assemble-requires-clause-are_axioms : goal.assemble-requires-clause-are_axioms
assemble-requires-clause-are_axioms c =
    axioms_stand _ _ _ _ _ _ _ _ _
    (prepared (map entity_of c.args.needs.now) c.args.doc.now c.in-Ok.arena.trees c.declare_each.new.arena.trees c.head.result.now c.in_ok-head.head c.notes.result.now c.in-Ok-declare_each.axioms.items c.deref.result.now c.axioms.result.now c.notes.ensures.document c.head.ensures.head c.in_ok-head.ensures (c.in-Ok.ensures.trees ∙ ap (λ (a : Held). a.trees) c.arena.ensures) c.notes.ensures.notes c.axioms.ensures.axioms c.deref.ensures.value c.in-Ok-declare_each.ensures.made)

pub returns-clause-ontology : goal.returns-clause-ontology
returns-clause-ontology c =
    let form = form_is _ _ _ _ _ _ _ _ _
    (prepared (map entity_of c.args.needs.now) c.args.doc.now c.in-Ok.arena.trees c.declare_each.new.arena.trees c.head.result.now c.in_ok-head.head c.notes.result.now c.in-Ok-declare_each.axioms.items c.deref.result.now c.axioms.result.now c.notes.ensures.document c.head.ensures.head c.in_ok-head.ensures (c.in-Ok.ensures.trees ∙ ap (λ (a : Held). a.trees) c.arena.ensures) c.notes.ensures.notes c.axioms.ensures.axioms c.deref.ensures.value c.in-Ok-declare_each.ensures.made) in
    IfOk-weaker c.assemble.result _ _ (λ (d : Document) e. e ∙ ap canonical_ontology form) c.assemble.ensures.ontology

pub returns-clause-light : goal.returns-clause-light
returns-clause-light c =
    let form = form_is _ _ _ _ _ _ _ _ _
    (prepared (map entity_of c.args.needs.now) c.args.doc.now c.in-Ok.arena.trees c.declare_each.new.arena.trees c.head.result.now c.in_ok-head.head c.notes.result.now c.in-Ok-declare_each.axioms.items c.deref.result.now c.axioms.result.now c.notes.ensures.document c.head.ensures.head c.in_ok-head.ensures (c.in-Ok.ensures.trees ∙ ap (λ (a : Held). a.trees) c.arena.ensures) c.notes.ensures.notes c.axioms.ensures.axioms c.deref.ensures.value c.in-Ok-declare_each.ensures.made) in
    on_ok_weaker c.assemble.result (λ h. subst (λ (o : Ontology). ontology_weight o ≤ heaviest) form h) c.assemble.ensures.light

pub returns-clause-heavy : goal.returns-clause-heavy
returns-clause-heavy c =
    let form = form_is _ _ _ _ _ _ _ _ _
    (prepared (map entity_of c.args.needs.now) c.args.doc.now c.in-Ok.arena.trees c.declare_each.new.arena.trees c.head.result.now c.in_ok-head.head c.notes.result.now c.in-Ok-declare_each.axioms.items c.deref.result.now c.axioms.result.now c.notes.ensures.document c.head.ensures.head c.in_ok-head.ensures (c.in-Ok.ensures.trees ∙ ap (λ (a : Held). a.trees) c.arena.ensures) c.notes.ensures.notes c.axioms.ensures.axioms c.deref.ensures.value c.in-Ok-declare_each.ensures.made) in
    λ e. subst (λ (o : Ontology). heaviest < ontology_weight o) form (c.assemble.ensures.heavy e)
