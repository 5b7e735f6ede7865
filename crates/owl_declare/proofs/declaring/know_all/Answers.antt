use Rattle.std.proofs.Common.{List, subst, sym, map}
use Rattle.std.proofs.lemmas.List.{take_all}
use Rattle.owl_doc.proofs.Declaring.{on_err}
use Rattle.owl_doc.specs.Entities.{AddsAll, AddsSome}
use Rattle.owl_kind.specs.Kinds.{Entity}
use Rattle.owl_declare.proofs.DeclaringLaws.{one_more_known, some_known}
use Rattle.owl_declare.specs.declared.need.Need.{Need}
use Rattle.owl_declare.specs.Needed.{entity_of}
use Rattle.owl_declare.proofs.declaring.know_all.Goals as goal

pub returns-in_err-copy-clause-err : goal.returns-in_err-copy-clause-err
returns-in_err-copy-clause-err c =
    on_err _ c.from_residual.result (some_known c.args.needs.now c.needs.need-index c.args.kinds.now c.needs.kinds c.needs.invariant)

pub returns-in_err-declare-clause-err : goal.returns-in_err-declare-clause-err
returns-in_err-declare-clause-err c =
    let some = some_known c.args.needs.now c.needs.need-index c.args.kinds.now c.needs.kinds c.needs.invariant in
    on_err _ c.from_residual-in_err-declare.result (subst (λ (kinds : List Entity). AddsSome c.args.kinds.now (map entity_of c.args.needs.now) kinds) (sym c.in_err-declare.ensures.err) some)

pub needs-preserved : goal.needs-preserved
needs-preserved c =
    one_more_known c.args.needs.now c.needs.need-index c.need-item.result c.in_ok-copy.field-0 c.args.kinds.now c.needs.kinds c.declare.new.self c.needs-test.true c.need-item.is c.in_ok-copy.ensures c.needs.invariant c.in_ok-declare.ensures.ok

pub returns-clause-ok : goal.returns-clause-ok
returns-clause-ok c =
    subst (λ (needs : List Need). AddsAll c.args.kinds.now (map entity_of needs) c.needs.kinds) (take_all c.needs.need-index c.args.needs.now c.needs-test.false) c.needs.invariant
