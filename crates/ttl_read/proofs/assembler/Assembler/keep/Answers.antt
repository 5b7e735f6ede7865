use Rattle.std.proofs.Common.{sym, ◌∙◌}
use Rattle.ttl_read.proofs.Shown.{form_kept}
use Rattle.ttl_read.proofs.assembler.Assembler.keep.Goals as goal

pub returns-in_ok-self-in-Some : goal.returns-in_ok-self-in-Some
returns-in_ok-self-in-Some c = λ state h.
    form_kept c.args.self.now c.in_ok-self-in-Some.field-0 state _ c.in-Some.form.now (sym c.in-Some.ensures) h (c.in_ok-self-in-Some.ensures ∙ c.as_str.ensures.chars)
