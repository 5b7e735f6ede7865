use Rattle.std.proofs.Common.{Err, ◌++◌, sym, ap, subst}
use Rattle.fss_write.specs.Text.{axiom_text}
use Rattle.owl_arena.specs.Held.{tree_at}
use Rattle.owl_doc.specs.declared.item.Item.{Item}
use Rattle.owl_doc.specs.Parts.{part_at}
use Rattle.owl_writing.specs.declared.fault.WriteFault.TheVariants.{TooLong}
use Rattle.owl_writing.specs.Limits.{IsTooLong}
use Rattle.owl_writing.proofs.DraftLaws.{passed_on}
use Rattle.owl_messages.specs.Verdicts.{part_text}
use Rattle.owl_messages.proofs.Telling.{long_behind}
use Rattle.owl_messages.proofs.verdicts.add_part.Goals as goal

pub returns-in_err-text-in-Axiom-clause-too_long : goal.returns-in_err-text-in-Axiom-clause-too_long
returns-in_err-text-in-Axiom-clause-too_long c = λ e.
    let found = passed_on c.from_residual.result c.in_err-text-in-Axiom.field-0.0 TooLong c.from_residual.ensures.1 e in
    let long = c.in_err-text-in-Axiom.ensures.too_long (ap Err found) in
    subst (λ (item : Item). IsTooLong (c.args.draft.now ++ part_text (part_at c.args.doc.now item))) (sym c.in-Axiom.is)
    (long_behind c.args.draft.now (axiom_text (tree_at c.args.doc.now.arena.trees c.in-Axiom.id)) long)
