use Rattle.std.proofs.Common.{Ok, sym, ap, ◌∙◌}
use Rattle.man_read.proofs.ShowingLaws.{form_read}
use Rattle.man_read.proofs.assembler.Assembler.keep_form.Goals as goal

pub returns-in_ok-self-in-Some : goal.returns-in_ok-self-in-Some
returns-in_ok-self-in-Some c = λ state h.
    form_read c.args.self.now state h c.args.next.now c.place_in-self.result c.in_ok-self-in-Some.field-0
    (c.in-Some.ensures.some ∙ ap Ok (sym (c.in_ok-self-in-Some.ensures ∙ c.as_str.ensures.chars))) c.place_in-self.ensures
