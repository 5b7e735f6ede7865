use Rattle.std.proofs.Common.{refl, sym, ◌∙◌}
use Rattle.std.specs.Cmp.{both_ways}
use Rattle.std.proofs.lemmas.Slice.Eq.{bytes_eq-Decides}
use Rattle.owl_characters.proofs.AsciiLaws.{from_bytes, from_characters}
use Rattle.rdf_terms.specs.Literals.{string}
use Rattle.owl_writing.proofs.terms.is_string.Goals as goal

pub returns : goal.returns
returns c =
    let bytes = bytes_eq-Decides c.text.result.now string in
    let characters = bytes_eq-Decides c.args.datatype.now string in
    c.eq.ensures ∙ both_ways _ _
    (λ e. characters.1 (from_bytes string c.args.datatype.now refl (sym (bytes.0 e) ∙ c.text.ensures.bytes)))
    (λ e. bytes.1 (c.text.ensures.bytes ∙ sym (from_characters string c.args.datatype.now refl (characters.0 e))))
