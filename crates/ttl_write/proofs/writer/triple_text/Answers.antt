use Rattle.std.proofs.Common.{Err, List, ℕ, ◌++◌, ap, subst}
use Rattle.owl_writing.proofs.DraftLaws.{passed_on, too_long_in_bytes}
use Rattle.owl_writing.specs.Limits.{IsTooLong}
use Rattle.owl_writing.specs.declared.fault.WriteFault.TheVariants.{TooLong}
use Rattle.ttl_write.specs.Text.{full_triple}
use Rattle.ttl_write.proofs.writer.triple_text.Goals as goal

pub returns-in_err-add_full_triple-clause-too_long : goal.returns-in_err-add_full_triple-clause-too_long
returns-in_err-add_full_triple-clause-too_long c = λ e.
    let found = passed_on c.from_residual.result c.in_err-add_full_triple.field-0.0 TooLong c.from_residual.ensures.1 e in
    let long = c.in_err-add_full_triple.ensures.too_long (ap Err found) in
    too_long_in_bytes (full_triple c.args.triple.now) (subst (λ (front : List ℕ). IsTooLong (front ++ full_triple c.args.triple.now)) c.new-draft.ensures long)
