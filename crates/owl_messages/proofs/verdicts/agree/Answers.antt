use Rattle.std.proofs.Common.{◌≡◌, codes, refl, ap, ◌∙◌}
use Rattle.std.specs.Str.{encode_utf8_all}
use Rattle.owl_characters.proofs.AsciiLaws.{ascii_bytes, ascii_chars}
use Rattle.owl_messages.proofs.verdicts.agree.Goals as goal

pub returns : goal.returns
returns c =
    let text : encode_utf8_all c.in_ok-of.field-0 ≡ codes "yes\n" = ap encode_utf8_all (c.in_ok-of.ensures ∙ ascii_chars _ refl) ∙ ascii_bytes _ refl in
    let line = c.in_ok-format.ensures.ok in
    cc
