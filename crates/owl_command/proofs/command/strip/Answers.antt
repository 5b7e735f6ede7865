use Rattle.std.proofs.Common.{◌∷◌, ap, ◌∙◌, sym, map, string_bytes, take, drop, length, ◌-◌, List, ℕ}
use Rattle.owl_command.proofs.Asking.{first_and}
use Rattle.owl_command.proofs.command.strip.Goals as goal

pub returns-in-len1-up-clause-some : goal.returns-in-len1-up-clause-some
returns-in-len1-up-clause-some c =
    first_and string_bytes c.args.words.now c.first-item.result c.in-len1-up.len_at_least c.first-item.is ∙ ap (λ (w : List ℕ). w ∷ map string_bytes (take (length c.args.words.now - 1) (drop 1 c.args.words.now))) (sym c.as_str.ensures.value ∙ c.is_word.ensures.0 c.if-is_word.true)
