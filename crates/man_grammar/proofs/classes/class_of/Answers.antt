use Rattle.std.proofs.Common.{ap, ◌∙◌}
use Rattle.man_grammar.specs.ClassNumbers.{class_number}
use Rattle.man_grammar.specs.Classes.{class_of}
use Rattle.man_grammar.proofs.classes.class_of.Goals as goal

pub returns : goal.returns
unfolding class_of
returns c = c.number.ensures ∙ ap class_number c.of.ensures
