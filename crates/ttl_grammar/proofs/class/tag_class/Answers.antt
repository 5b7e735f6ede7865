use Rattle.std.proofs.Common.{true, false, codes, refl, sym}
use Rattle.owl_characters.proofs.AsciiLaws.{ascii_chars}
use Rattle.ttl_grammar.proofs.Words.{tag_told, word_told}
use Rattle.ttl_grammar.proofs.class.tag_class.Goals as goal

pub returns-then-is : goal.returns-then-is
returns-then-is c =
    let first = word_told c.args.tag.now (codes "prefix") _ c.is.result c.is.ensures (ascii_chars _ refl) true c.if-is.true in
    sym (tag_told c.args.tag.now true _ first refl)

pub returns-then-is-2 : goal.returns-then-is-2
returns-then-is-2 c =
    let first = word_told c.args.tag.now (codes "prefix") _ c.is.result c.is.ensures (ascii_chars _ refl) false c.if-is.false in
    let second = word_told c.args.tag.now (codes "base") _ c.is-else-is.result c.is-else-is.ensures (ascii_chars _ refl) true c.if-is-2.true in
    sym (tag_told c.args.tag.now false true first second)

pub returns-else-is-2 : goal.returns-else-is-2
returns-else-is-2 c =
    let first = word_told c.args.tag.now (codes "prefix") _ c.is.result c.is.ensures (ascii_chars _ refl) false c.if-is.false in
    let second = word_told c.args.tag.now (codes "base") _ c.is-else-is.result c.is-else-is.ensures (ascii_chars _ refl) false c.if-is-2.false in
    sym (tag_told c.args.tag.now false false first second)
