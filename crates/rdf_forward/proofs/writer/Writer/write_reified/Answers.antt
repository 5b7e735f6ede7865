use Rattle.std.proofs.Common.{rules, ◌≡◌, true, false, sym, ◌∙◌}
use Rattle.std.proofs.lemmas.Result.{on_ok_weaker}
use Rattle.rdf_forward.proofs.Annotations.{axiom_plain, axiom_reified}
use Rattle.rdf_forward.proofs.writer.Writer.write_reified.Goals as goal

pub returns-then-not-has_notes : goal.returns-then-not-has_notes
returns-then-not-has_notes c =
    let none : c.has_notes.result ≡ false = search rules in
    axiom_plain _ _ _ (sym c.has_notes.ensures ∙ none)

pub returns : goal.returns
returns c =
    let some : c.has_notes.result ≡ true = search rules in
    on_ok_weaker c.write_notes.result (λ others. axiom_reified _ _ _ _ _ _ (sym c.has_notes.ensures ∙ some) c.in_ok-node.ensures.number c.in_ok-node.ensures.writes others) c.write_notes.ensures
