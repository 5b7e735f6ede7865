use Rattle.std.proofs.Common.{refl, sym, ◌∙◌}
use Rattle.std.specs.Prelude.{codes}
use Rattle.std.proofs.lemmas.Slice.Eq.{bytes_eq-Decides}
use Rattle.owl_characters.proofs.AsciiLaws.{from_bytes, from_characters}
use Rattle.rdf_rows.proofs.literals.is_word_true.Goals as goal

pub returns : goal.returns
returns c =
    let text = c.lexical.result.now in
    let form = c.args.literal.now.lexical in
    let same = bytes_eq-Decides text (codes "true") in (
      λ h. from_bytes (codes "true") form refl (sym (same.0 (sym c.eq.ensures ∙ h)) ∙ c.lexical.ensures.bytes),
      λ e. c.eq.ensures ∙ same.1 (c.lexical.ensures.bytes ∙ sym (from_characters (codes "true") form refl e)),
    )
