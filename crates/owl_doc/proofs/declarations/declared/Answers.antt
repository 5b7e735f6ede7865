use Rattle.std.proofs.Common.{◌∙◌, ℕ, List, ap, subst, sym}
use Rattle.std.proofs.lemmas.List.{take_all}
use Rattle.owl_arena.specs.Held.{Held, trees_at}
use Rattle.owl_kind.specs.Kinds.{Entity}
use Rattle.owl_doc.specs.Entities.{AddsAll, AddsSome, declarations}
use Rattle.owl_doc.proofs.Declaring.{more_declared, on_err, one_more_declared}
use Rattle.owl_doc.proofs.declarations.declared.Goals as goal

pub axioms-preserved : goal.axioms-preserved
axioms-preserved c =
    one_more_declared c.args.doc.now.arena.trees c.arena.result.now.trees c.axioms-id-items.result.now c.axioms.id-index c.id-item.result c.args.kinds.now c.axioms.kinds c.declare.new.kinds (ap (λ (h : Held). h.trees) c.arena.ensures) c.axioms-test.true c.id-item.is c.axioms.invariant c.in_ok-declare.ensures.ok

pub returns-clause-ok : goal.returns-clause-ok
returns-clause-ok c =
    let items = c.axioms-id-items in
    subst (λ (ids : List ℕ). AddsAll c.args.kinds.now (declarations (trees_at c.args.doc.now.arena.trees ids)) c.axioms.kinds) (take_all c.axioms.id-index items.result.now c.axioms-test.false ∙ items.ensures.axioms) c.axioms.invariant

pub returns-in_err-declare-clause-err : goal.returns-in_err-declare-clause-err
returns-in_err-declare-clause-err c =
    let d = c.args.doc.now in
    let items = c.axioms-id-items in
    let some = more_declared d.arena.trees items.result.now c.axioms.id-index c.args.kinds.now c.axioms.kinds c.axioms.invariant in
    let all = subst (λ (ids : List ℕ). AddsSome c.args.kinds.now (declarations (trees_at d.arena.trees ids)) c.axioms.kinds) items.ensures.axioms some in
    on_err _ c.from_residual.result (subst (λ (kinds : List Entity). AddsSome c.args.kinds.now (declarations (trees_at d.arena.trees d.axioms)) kinds) (sym c.in_err-declare.ensures.err) all)
