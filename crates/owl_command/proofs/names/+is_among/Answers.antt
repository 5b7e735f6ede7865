use Rattle.std.proofs.Common.{string_bytes, ◌∙◌, sym}
use Rattle.owl_command.proofs.Asking.{among_behind, first_and}
use Rattle.owl_command.proofs.names.+is_among.Goals as goal

pub returns-else-is_word : goal.returns-else-is_word
returns-else-is_word n c =
    among_behind _ _ _ _ c.is_among.result (first_and string_bytes c.args.words.now c.first-item.result c.in-len1-up.len_at_least c.first-item.is) (λ e. let is = c.is_word.ensures.1 (e ∙ sym c.as_str.ensures.value) in let no = c.if-is_word.false in cc) c.is_among.ensures
