use Rattle.std.proofs.Common.{refl, sym, ap, ◌∙◌}
use Rattle.fss_grammar.specs.Classes.{class_number, named_class}
use Rattle.fss_grammar.proofs.ClassLaws.{named_none, named_some}
use Rattle.fss_grammar.proofs.classes.word_class.Goals as goal

pub returns-in-Some : goal.returns-in-Some
returns-in-Some c =
    let w = c.args.word.now in
    c.number.ensures ∙ sym (ap (λ found. class_number (named_class found w)) (named_some w c.as_str.result.now c.in-Some.tag c.in-Some.ensures.some c.as_str.ensures.chars))

pub returns-in-None : goal.returns-in-None
returns-in-None c =
    let w = c.args.word.now in
    c.head_class.ensures ∙ sym (ap (λ found. class_number (named_class found w)) (named_none w c.as_str.result.now (c.in-None.ensures.none refl) c.as_str.ensures.chars))
