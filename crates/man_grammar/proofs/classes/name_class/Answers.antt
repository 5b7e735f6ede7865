use Rattle.std.proofs.Common.{refl, sym, ap, ◌∙◌}
use Rattle.owl_characters.proofs.AsciiLaws.{ascii_chars}
use Rattle.man_grammar.specs.Classes.{keyword_or}
use Rattle.man_grammar.specs.declared.class.Class.TheVariants as class
use Rattle.man_grammar.proofs.Words.{named_alone, named_with}
use Rattle.man_grammar.proofs.classes.name_class.Goals as goal

pub returns-then-is : goal.returns-then-is
returns-then-is c = c.keyword_or.ensures ∙ ap (λ ks. keyword_or class.Namespace ks c.args.prefix.now) c.colon_keywords.ensures ∙ named_alone c.args.prefix.now c.args.local.now _ c.is.result c.is.ensures (ascii_chars _ refl) c.if-is.true

pub returns-else-is : goal.returns-else-is
returns-else-is c = sym (named_with c.args.prefix.now c.args.local.now _ c.is.result c.is.ensures (ascii_chars _ refl) c.if-is.false)
