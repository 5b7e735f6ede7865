use Rattle.std.proofs.Common.{true, false, refl, sym}
use Rattle.owl_characters.proofs.AsciiLaws.{ascii_chars}
use Rattle.ttl_grammar.proofs.Words.{name_told}
use Rattle.ttl_grammar.proofs.class.name_class.Goals as goal

pub returns-then-is : goal.returns-then-is
returns-then-is c = sym (name_told c.args.local.now _ c.is.result c.is.ensures (ascii_chars _ refl) true c.if-is.true)

pub returns-else-is : goal.returns-else-is
returns-else-is c = sym (name_told c.args.local.now _ c.is.result c.is.ensures (ascii_chars _ refl) false c.if-is.false)
