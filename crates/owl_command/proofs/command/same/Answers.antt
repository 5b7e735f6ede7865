use Rattle.std.proofs.Common.{ap, ◌∙◌, string_bytes}
use Rattle.std.specs.Str.{encode_utf8_all}
use Rattle.std.proofs.lemmas.Str.{encodes-chars}
use Rattle.owl_command.proofs.Asking.{pair_asks}
use Rattle.owl_command.proofs.command.same.Goals as goal

pub returns-in_ok-of-in-len2-2-clause-command : goal.returns-in_ok-of-in-len2-2-clause-command
returns-in_ok-of-in-len2-2-clause-command c =
    pair_asks string_bytes c.args.words.now c.first-item.result c.second-item.result c.in_ok-of-in-len2.field-0 c.in_ok-of-in-len2-2.field-0 c.in-len2.len_at_least c.in-len2.len_below c.first-item.is c.second-item.is (ap encode_utf8_all c.in_ok-of-in-len2.ensures ∙ encodes-chars c.as_str.result.now c.as_str.utf8 ∙ c.as_str.ensures.value) (ap encode_utf8_all c.in_ok-of-in-len2-2.ensures ∙ encodes-chars c.as_str-in-len2.result.now c.as_str-in-len2.utf8 ∙ c.as_str-in-len2.ensures.value) (c.are_names.ensures.0 c.if-are_names.true)
