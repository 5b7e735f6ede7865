use Rattle.std.proofs.Common.{Err, List, ℕ, ◌++◌, ap, subst}
use Rattle.owl_atom.specs.declared.prefixes.Prefix.{Prefix}
use Rattle.owl_writing.proofs.DraftLaws.{passed_on, too_long_in_bytes}
use Rattle.owl_writing.specs.Limits.{IsTooLong}
use Rattle.owl_writing.specs.declared.fault.WriteFault.TheVariants.{TooLong}
use Rattle.ttl_write.specs.Text.{full_term, term_text}
use Rattle.ttl_write.proofs.writer.term_text.Goals as goal

pub returns-in_err-add_term-clause-too_long : goal.returns-in_err-add_term-clause-too_long
returns-in_err-add_term-clause-too_long c = λ e.
    let found = passed_on c.from_residual.result c.in_err-add_term.field-0.0 TooLong c.from_residual.ensures.1 e in
    let long = c.in_err-add_term.ensures.too_long (ap Err found) in
    let afresh = subst (λ (front : List ℕ). IsTooLong (front ++ term_text c.empty.result c.args.term.now)) c.new-draft.ensures long in
    too_long_in_bytes (full_term c.args.term.now) (subst (λ (prefixes : List Prefix). IsTooLong (term_text prefixes c.args.term.now)) c.empty.ensures afresh)
