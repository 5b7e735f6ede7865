use Rattle.std.proofs.Common.{true, false, codes, refl, sym, ap}
use Rattle.owl_characters.proofs.AsciiLaws.{ascii_chars}
use Rattle.fss_grammar.specs.Classes.{class_number}
use Rattle.fss_grammar.proofs.ClassLaws.{head_told, text_told}
use Rattle.fss_grammar.proofs.classes.head_class.Goals as goal

pub returns-then-is : goal.returns-then-is
returns-then-is c =
    let w = c.args.word.now in
    let first = text_told (codes "Prefix") w _ c.is.result c.is.ensures (ascii_chars _ refl) true c.if-is.true in
    sym (ap class_number (head_told w true _ _ first refl refl))

pub returns-then-is-2 : goal.returns-then-is-2
returns-then-is-2 c =
    let w = c.args.word.now in
    let first = text_told (codes "Prefix") w _ c.is.result c.is.ensures (ascii_chars _ refl) false c.if-is.false in
    let second = text_told (codes "Ontology") w _ c.is-else-is.result c.is-else-is.ensures (ascii_chars _ refl) true c.if-is-2.true in
    sym (ap class_number (head_told w false true _ first second refl))

pub returns-then-is-3 : goal.returns-then-is-3
returns-then-is-3 c =
    let w = c.args.word.now in
    let first = text_told (codes "Prefix") w _ c.is.result c.is.ensures (ascii_chars _ refl) false c.if-is.false in
    let second = text_told (codes "Ontology") w _ c.is-else-is.result c.is-else-is.ensures (ascii_chars _ refl) false c.if-is-2.false in
    let third = text_told (codes "Import") w _ c.is-else-is-2.result c.is-else-is-2.ensures (ascii_chars _ refl) true c.if-is-3.true in
    sym (ap class_number (head_told w false false true first second third))

pub returns-else-is-3 : goal.returns-else-is-3
returns-else-is-3 c =
    let w = c.args.word.now in
    let first = text_told (codes "Prefix") w _ c.is.result c.is.ensures (ascii_chars _ refl) false c.if-is.false in
    let second = text_told (codes "Ontology") w _ c.is-else-is.result c.is-else-is.ensures (ascii_chars _ refl) false c.if-is-2.false in
    let third = text_told (codes "Import") w _ c.is-else-is-2.result c.is-else-is-2.ensures (ascii_chars _ refl) false c.if-is-3.false in
    sym (ap class_number (head_told w false false false first second third))
