use Rattle.std.proofs.Common.{◌≡◌, get_or, rules, sym, ◌∙◌}
use Rattle.std.specs.Prelude.{◌==◌}
use Rattle.std.specs.Char.{is_ascii_digit}
use borrow.Author.Tests.{tests}
use Rattle.std.proofs.lemmas.Iterator.Adapters.{YieldsList-from_bytes}
use Rattle.std.proofs.lemmas.Iterator.Search.{all_from_yields_List}
use Rattle.blank_labels.proofs.LabelLaws.{counted_where}
use Rattle.blank_labels.proofs.labels.are_counted.Goals as goal

pub returns-then-digits-le-MOST_DIGITS : goal.returns-then-digits-le-MOST_DIGITS
returns-then-digits-le-MOST_DIGITS c =
    let ds = c.args.digits.now in
    let all = all_from_yields_List is_ascii_digit _ _ c.all.result c.all.ensures.ran (YieldsList-from_bytes ds c.bytes.ensures.rest) (λ x b q k. search (rules, tests)) in
    let first : c.starts_with.result ≡ (get_or ds 0 0 == 0x30) = search rules in
    all ∙ sym (counted_where ds (sym c.is_empty.ensures ∙ c.if-is_empty.false) (sym first ∙ c.if-starts_with.false) c.if-digits-le-MOST_DIGITS.true)
