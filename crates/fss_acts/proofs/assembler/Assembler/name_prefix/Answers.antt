use Rattle.std.proofs.Common.{refl, ap, sym, ◌∙◌}
use Rattle.owl_atom.specs.Prefixes.{is_declared}
use Rattle.fss_acts.proofs.Declared.{named_twice, prefix_named}
use Rattle.fss_acts.proofs.assembler.Assembler.name_prefix.Goals as goal

pub returns-then-is_declared : goal.returns-then-is_declared
returns-then-is_declared c = λ m h ready ne.
    named_twice c.args.self.now m h c.args.next.now c.prefix_in-name.result.now c.prefix_in-name.ensures _ refl (ap (is_declared c.args.self.now.prefixes) (sym c.as_str.ensures.chars) ∙ sym c.is_declared.ensures ∙ c.if-is_declared.true)

pub returns : goal.returns
returns c = λ m h ready.
    prefix_named c.args.self.now m h c.args.next.now c.prefix_in-name.result.now c.prefix_in-name.ensures c.in_ok-name.name (c.in_ok-name.ensures ∙ c.as_str-2.ensures.chars) c.requires.token ready.0 (ap (is_declared c.args.self.now.prefixes) (sym c.as_str.ensures.chars) ∙ sym c.is_declared.ensures ∙ c.if-is_declared.false)
