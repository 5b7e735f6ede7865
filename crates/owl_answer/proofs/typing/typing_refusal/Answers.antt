use Rattle.std.proofs.Common.{refl}
use Rattle.owl_doc.specs.Parts.{part_at}
use Rattle.owl_answer.specs.Typing.{entity_found}
use Rattle.owl_answer.specs.TurtleOutcome.{clashes, untyped}
use Rattle.owl_answer.proofs.typing.typing_refusal.Goals as goal

pub returns-in-Some : goal.returns-in-Some
returns-in-Some c = clashes c.in-Some.iri.now c.in-Some.ensures.some c.in_ok-refuse_kinds.ensures

pub returns-in_ok-refuse_undeclared-in-Some-first_untyped : goal.returns-in_ok-refuse_undeclared-in-Some-first_untyped
returns-in_ok-refuse_undeclared-in-Some-first_untyped c =
    let found = c.in-Some-first_untyped.untyped in
    untyped (c.in_default.ensures.none.0 refl) (part_at c.args.doc.now found.item) (entity_found found) c.in-Some-first_untyped.ensures.some c.in_ok-refuse_undeclared-in-Some-first_untyped.ensures

pub returns-in-None : goal.returns-in-None
returns-in-None c = record { no_clash = c.in_default.ensures.none.0 refl; typed = c.in-None.ensures.none.0 refl }
