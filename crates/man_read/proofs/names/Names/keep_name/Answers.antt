use Rattle.std.proofs.Common.{refl, sym, subst, ap, ◌∙◌}
use Rattle.owl_atom.specs.Prefixes.{is_declared}
use Rattle.man_read.specs.NameTables.{AreNames}
use Rattle.man_read.proofs.NameLaws.{named}
use Rattle.man_read.proofs.names.Names.keep_name.Goals as goal

pub returns : goal.returns
returns c = λ names local h.
    named _ _ names (subst (λ t. AreNames t names) (sym c.self.view_is) h) c.args.name.now local
    (ap (λ name. is_declared c.self.inside.prefixes name) (sym c.as_str.ensures.chars) ∙ sym c.is_declared.ensures ∙ c.if-is_declared.false) refl (c.in_ok-self-inside.ensures ∙ c.as_str-2.ensures.chars)
