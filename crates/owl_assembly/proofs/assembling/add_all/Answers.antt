use Rattle.std.proofs.Common.{Err, ap, subst}
use Rattle.owl_arena.specs.Held.{Held}
use Rattle.owl_arena.specs.Shared.{AreShared}
use Rattle.owl_assembly.proofs.Filling.{axiom_added, axioms_too_heavy, is_axiom_there}
use Rattle.owl_assembly.proofs.assembling.add_all.Goals as goal

pub returns-in-Err-TooHeavy-clause-heavy : goal.returns-in-Err-TooHeavy-clause-heavy
returns-in-Err-TooHeavy-clause-heavy c = λ _.
    axioms_too_heavy c.args.builder.now c.ids.builder c.args.ids.now c.ids.id-index c.id-item.result (record { inside = c.ids-test.true; number = c.id-item.is }) c.requires.held (subst (λ (a : Held). AreShared a.trees) c.arena.ensures.arena c.distinct-trees.ensures.shared) c.arena.ensures.begun c.ids.invariant
    (c.in-Err-TooHeavy.ensures.too_heavy.0 (ap Err c.in-Err-TooHeavy.field-0-is)).1

pub unreachable-requires : goal.unreachable-requires
unreachable-requires c =
    c.in-Err-WrongTag.ensures.wrong_tag.0 (ap Err c.in-Err-WrongTag.field-0-is)
    (is_axiom_there c.args.builder.now c.ids.builder c.args.ids.now c.ids.id-index c.id-item.result (record { inside = c.ids-test.true; number = c.id-item.is }) c.ids.invariant c.requires.are_axioms)

pub ids-preserved : goal.ids-preserved
ids-preserved c =
    axiom_added c.args.builder.now c.ids.builder c.args.ids.now c.ids.id-index c.id-item.result (record { inside = c.ids-test.true; number = c.id-item.is }) c.add.new.self _ c.ids.invariant c.in-Ok.ensures.new c.in-Ok.ensures.added
