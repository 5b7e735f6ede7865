use Rattle.std.proofs.Common.{◌<◌, ℕ, List, Contains, length, subst, sym}
use Rattle.owl_arena.specs.Held.{tree_at}
use Rattle.owl_list.proofs.AscendingLaws.{all_in}
use Rattle.owl_doc.specs.Parts.{IsFirstWithout, of_axiom, part_entities}
use Rattle.sayable_parts.proofs.SearchLaws.{axioms_at, first_axiom}
use Rattle.owl_answer.specs.Typing.{IsWellTyped}
use Rattle.owl_answer.proofs.Typings.{not_typed}
use Rattle.owl_answer.proofs.typing.untyped_axiom.Goals as goal

pub returns-in-Some : goal.returns-in-Some
returns-in-Some c =
    let d = c.args.doc.now in
    let kinds = c.args.kinds.now in
    let id = c.id-item.result in
    let items = c.axioms-id-items in
    let part = of_axiom (tree_at d.arena.trees id) in
    let there = subst (λ (ids : List ℕ). Contains ids id) items.ensures.axioms (c.axioms.id-index, c.axioms-test.true, sym c.id-item.is) in
    let fails = not_typed kinds (part_entities part) _ c.in-Some.ensures.some in
    let first = first_axiom (IsWellTyped kinds) d.arena.trees items.result.now c.axioms.id-index id c.axioms-test.true c.id-item.is c.axioms.invariant fails in (
      all_in (λ id. id < length d.arena.trees) d.axioms id items.ensures.document.axioms there,
      record { first = subst (λ (ids : List ℕ). IsFirstWithout (IsWellTyped kinds) (axioms_at d.arena.trees ids) part) items.ensures.axioms first; entity = c.in-Some.ensures.some },
    )
