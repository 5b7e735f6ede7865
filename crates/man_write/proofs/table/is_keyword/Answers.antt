use Rattle.std.proofs.Common.{ℕ, ap, ◌∙◌}
use Rattle.std.specs.Prelude.{nat_le}
use Rattle.std.specs.Str.{chars}
use Rattle.man_grammar.specs.Classes.{class_of}
use Rattle.owl_tokens.specs.declared.token.Token.TheVariants as token
use Rattle.man_write.proofs.KeywordLaws.{keyword_by_class}
use Rattle.man_write.proofs.table.is_keyword.Goals as goal

pub returns : goal.returns
returns c =
    ap (λ (n : ℕ). nat_le n 30) (c.class_of.ensures ∙ (λ i. class_of (token.Name (c.in_ok-of.ensures i) (c.new.ensures i))))
    ∙ keyword_by_class (chars c.args.name.now)
