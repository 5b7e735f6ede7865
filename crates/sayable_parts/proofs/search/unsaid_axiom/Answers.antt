use Rattle.std.proofs.Common.{◌∙◌, ◌<◌, ℕ, List, Contains, ap, length, subst, sym}
use Rattle.owl_arena.specs.Held.{Held, tree_at}
use Rattle.owl_list.proofs.AscendingLaws.{all_in}
use Rattle.owl_doc.specs.Parts.{IsFirstWithout, of_axiom}
use Rattle.sayable_parts.specs.Reasons.{why_seen}
use Rattle.sayable_parts.specs.Unsaid.{Says}
use Rattle.sayable_parts.proofs.SearchLaws.{axioms_at, first_axiom, one_more_axiom}
use Rattle.sayable_parts.proofs.UnsaidLaws.{not_said}
use Rattle.sayable_parts.proofs.search.unsaid_axiom.Goals as goal

pub axioms-preserved : goal.axioms-preserved
axioms-preserved g c =
    let objection = g.S.Saying.objection c.args.syntax.now in
    let trees = c.args.doc.now.arena.trees in
    let id = c.id-item.result in
    let said = c.in_default.ensures ∙ ap (λ (h : Held). objection (of_axiom (tree_at h.trees id))) c.arena.ensures in
    one_more_axiom (Says objection) trees c.axioms-id-items.result.now c.axioms.id-index id c.axioms-test.true c.id-item.is c.axioms.invariant (sym said)

pub returns-in-Some : goal.returns-in-Some
returns-in-Some g c =
    let objection = g.S.Saying.objection c.args.syntax.now in
    let d = c.args.doc.now in
    let id = c.id-item.result in
    let why = why_seen c.in-Some.why in
    let items = c.axioms-id-items in
    let against = sym (c.in-Some.ensures ∙ ap (λ (h : Held). objection (of_axiom (tree_at h.trees id))) c.arena.ensures) in
    let there = subst (λ (ids : List ℕ). Contains ids id) items.ensures.axioms (c.axioms.id-index, c.axioms-test.true, sym c.id-item.is) in
    let part = of_axiom (tree_at d.arena.trees id) in
    let first = first_axiom (Says objection) d.arena.trees items.result.now c.axioms.id-index id c.axioms-test.true c.id-item.is c.axioms.invariant (not_said objection part why against) in (
      all_in (λ id. id < length d.arena.trees) d.axioms id items.ensures.document.axioms there,
      record { first = subst (λ (ids : List ℕ). IsFirstWithout (Says objection) (axioms_at d.arena.trees ids) part) items.ensures.axioms first; told = against },
    )
