use Rattle.std.proofs.Common.{rules, ◌≡◌, arith, sym, ◌∙◌, get_or}
use Rattle.std.specs.Char.{is_ascii_digit}
use borrow.Author.Tests.{tests}
use Rattle.std.proofs.lemmas.Iterator.Adapters.{YieldsList-from_bytes}
use Rattle.std.proofs.lemmas.Iterator.Search.{all_from_yields_List}
use Rattle.std.specs.Prelude.{◌==◌}
use Rattle.blank_labels.proofs.FarDigits.{far_where}
use Rattle.blank_labels.proofs.far.are_far.Goals as goal

pub returns : goal.returns
returns c =
    let ds = c.args.digits.now in
    let all = all_from_yields_List is_ascii_digit _ _ c.all.result c.all.ensures.ran (YieldsList-from_bytes ds c.bytes.ensures.rest) (λ x b q k. search (rules, tests)) in
    let first : c.starts_with.result ≡ (get_or ds 0 0 == 0x30) = search rules in
    all ∙ sym (far_where ds (omega (arith, c.if-digits-ne-FAR_DIGITS.false)) (sym first ∙ c.if-starts_with.false))
