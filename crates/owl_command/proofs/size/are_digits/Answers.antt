use Rattle.std.proofs.Common.{◌≡◌, get_or, rules}
use Rattle.std.specs.Prelude.{◌==◌}
use Rattle.std.specs.Char.{is_ascii_digit}
use borrow.Author.Tests.{tests}
use Rattle.std.proofs.lemmas.Iterator.Adapters.{YieldsList-from_bytes}
use Rattle.std.proofs.lemmas.Iterator.Search.{all_from_yields_List}
use Rattle.owl_command.proofs.Sizes.{digits_behind}
use Rattle.owl_command.proofs.size.are_digits.Goals as goal

pub returns-then-not-starts_with : goal.returns-then-not-starts_with
returns-then-not-starts_with c =
    let ds = c.args.word.now in
    let all = all_from_yields_List is_ascii_digit _ _ c.all.result c.all.ensures.ran (YieldsList-from_bytes ds c.bytes.ensures.rest) (λ x b q k. search (rules, tests)) in
    let first : (get_or ds 0 0 == 0x30) ≡ c.starts_with.result = search rules in
    digits_behind ds _ c.starts_with.result all first (search rules)
