use Rattle.std.proofs.Common.{List, ℕ, ◌++◌, Err, codes, ap, append_assoc, subst}
use Rattle.std.specs.List.{flat_map}
use Rattle.owl_doc.specs.declared.item.Breach.{Breach}
use Rattle.owl_writing.specs.declared.fault.WriteFault.TheVariants.{TooLong}
use Rattle.owl_writing.specs.Limits.{IsTooLong}
use Rattle.owl_writing.proofs.DraftLaws.{too_long_at, passed_on}
use Rattle.owl_messages.specs.VerdictLines.{found_line}
use Rattle.owl_messages.proofs.verdicts.add_breaches.Goals as goal

pub returns-in_err-add_breach-clause-too_long : goal.returns-in_err-add_breach-clause-too_long
returns-in_err-add_breach-clause-too_long c = λ e.
    let line : Breach → List ℕ = found_line c.args.closure.now.documents c.args.places.now in
    let found = passed_on c.from_residual-in_err-add_breach.result c.in_err-add_breach.field-0.0 TooLong c.from_residual-in_err-add_breach.ensures.1 e in
    let long = too_long_at line (c.args.draft.now ++ codes "no\n") c.found.draft c.args.found.now c.found.breach-index c.breach-item.result c.found.invariant c.found-test.true c.breach-item.is (c.in_err-add_breach.ensures.too_long (ap Err found)) in
    subst IsTooLong (append_assoc c.args.draft.now (codes "no\n") (flat_map line c.args.found.now)) long
