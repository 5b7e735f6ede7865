use Rattle.std.proofs.Common.{Err, List, ℕ, [], ◌++◌, ap, subst}
use Rattle.owl_arena.specs.Held.{Held, tree_at}
use Rattle.owl_atom.specs.declared.prefixes.Prefix.{Prefix}
use Rattle.owl_writing.specs.Limits.{IsTooLong}
use Rattle.fss_write.specs.Text.{axiom_text, written_text}
use Rattle.owl_writing.specs.declared.fault.WriteFault.TheVariants.{TooLong}
use Rattle.owl_writing.proofs.DraftLaws.{passed_on, too_long_in_bytes}
use Rattle.fss_write.proofs.writer.axiom_text.Goals as goal

pub returns-in_err-add_item-clause-too_long : goal.returns-in_err-add_item-clause-too_long
returns-in_err-add_item-clause-too_long c = λ e.
    let found = passed_on c.from_residual.result c.in_err-add_item.field-0.0 TooLong c.from_residual.ensures.1 e in
    let long = c.in_err-add_item.ensures.too_long (ap Err found) in
    let afresh = subst (λ (front : List ℕ). IsTooLong (front ++ written_text c.empty.result (tree_at c.arena.result.now.trees c.args.id))) c.new-draft.ensures long in
    let full = subst (λ (prefixes : List Prefix). IsTooLong (written_text prefixes (tree_at c.arena.result.now.trees c.args.id))) c.empty.ensures afresh in
    let here = subst (λ (arena : Held). IsTooLong (written_text [] (tree_at arena.trees c.args.id))) c.arena.ensures full in
    too_long_in_bytes (axiom_text (tree_at c.args.doc.now.arena.trees c.args.id)) here
