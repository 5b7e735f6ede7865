use Rattle.std.proofs.Common.{◌≤◌, ◌<◌, ap, rules, subst, ◌∙◌}
use Rattle.man_resolve.specs.Expressions.{knows}
use Rattle.owl_arena.specs.Held.{Held}
use Rattle.owl_arena.specs.Shared.{heaviest}
use Rattle.owl_tree.specs.Ontologies.{Ontology, canonical_ontology, ontology_weight}
use Rattle.man_normal.proofs.FormingLaws.{axioms_stand, form_is, notes_stand, prepared}
use Rattle.man_normal.proofs.forming.normal.Goals as goal

pub assemble-requires-clause-are_annotations : goal.assemble-requires-clause-are_annotations
assemble-requires-clause-are_annotations c =
    notes_stand _ _ _ _ _ _ _ _ _
    (prepared (knows c.args.kinds.now) c.args.doc.now c.in_ok-arena.arena.trees c.with_declarations.new.arena.trees c.head.result.now c.in_ok-head.head c.notes.result.now c.in_ok-axioms.axioms.items c.deref.result.now c.axioms.result.now c.notes.ensures.document c.head.ensures.head c.in_ok-head.ensures (c.in_ok-arena.ensures.trees ∙ ap (λ (a : Held). a.trees) c.arena.ensures) c.notes.ensures.notes c.axioms.ensures.axioms c.deref.ensures.value c.in_ok-axioms.ensures.made)

pub assemble-requires-clause-are_axioms : goal.assemble-requires-clause-are_axioms
assemble-requires-clause-are_axioms c =
    axioms_stand _ _ _ _ _ _ _ _ _
    (prepared (knows c.args.kinds.now) c.args.doc.now c.in_ok-arena.arena.trees c.with_declarations.new.arena.trees c.head.result.now c.in_ok-head.head c.notes.result.now c.in_ok-axioms.axioms.items c.deref.result.now c.axioms.result.now c.notes.ensures.document c.head.ensures.head c.in_ok-head.ensures (c.in_ok-arena.ensures.trees ∙ ap (λ (a : Held). a.trees) c.arena.ensures) c.notes.ensures.notes c.axioms.ensures.axioms c.deref.ensures.value c.in_ok-axioms.ensures.made)

pub returns-in-Ok-clause-ontology : goal.returns-in-Ok-clause-ontology
returns-in-Ok-clause-ontology c =
    c.in-Ok.ensures.ontology
    ∙ ap canonical_ontology (form_is _ _ _ _ _ _ _ _ _
    (prepared (knows c.args.kinds.now) c.args.doc.now c.in_ok-arena.arena.trees c.with_declarations.new.arena.trees c.head.result.now c.in_ok-head.head c.notes.result.now c.in_ok-axioms.axioms.items c.deref.result.now c.axioms.result.now c.notes.ensures.document c.head.ensures.head c.in_ok-head.ensures (c.in_ok-arena.ensures.trees ∙ ap (λ (a : Held). a.trees) c.arena.ensures) c.notes.ensures.notes c.axioms.ensures.axioms c.deref.ensures.value c.in_ok-axioms.ensures.made))

pub returns-in-Ok-clause-light : goal.returns-in-Ok-clause-light
returns-in-Ok-clause-light c =
    subst (λ (o : Ontology). ontology_weight o ≤ heaviest)
    (form_is _ _ _ _ _ _ _ _ _
    (prepared (knows c.args.kinds.now) c.args.doc.now c.in_ok-arena.arena.trees c.with_declarations.new.arena.trees c.head.result.now c.in_ok-head.head c.notes.result.now c.in_ok-axioms.axioms.items c.deref.result.now c.axioms.result.now c.notes.ensures.document c.head.ensures.head c.in_ok-head.ensures (c.in_ok-arena.ensures.trees ∙ ap (λ (a : Held). a.trees) c.arena.ensures) c.notes.ensures.notes c.axioms.ensures.axioms c.deref.ensures.value c.in_ok-axioms.ensures.made))
    c.in-Ok.ensures.light

pub returns-in-Err-TooHeavy-clause-too_heavy : goal.returns-in-Err-TooHeavy-clause-too_heavy
returns-in-Err-TooHeavy-clause-too_heavy c = λ _.
    subst (λ (o : Ontology). heaviest < ontology_weight o)
    (form_is _ _ _ _ _ _ _ _ _
    (prepared (knows c.args.kinds.now) c.args.doc.now c.in_ok-arena.arena.trees c.with_declarations.new.arena.trees c.head.result.now c.in_ok-head.head c.notes.result.now c.in_ok-axioms.axioms.items c.deref.result.now c.axioms.result.now c.notes.ensures.document c.head.ensures.head c.in_ok-head.ensures (c.in_ok-arena.ensures.trees ∙ ap (λ (a : Held). a.trees) c.arena.ensures) c.notes.ensures.notes c.axioms.ensures.axioms c.deref.ensures.value c.in_ok-axioms.ensures.made))
    (c.in-Err-TooHeavy.ensures.heavy (search rules))
