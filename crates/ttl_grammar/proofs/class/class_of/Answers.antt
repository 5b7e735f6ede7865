use Rattle.std.proofs.Common.{ap, ◌∙◌}
use Rattle.ttl_grammar.specs.Classes.{class_number, class_of}
use Rattle.ttl_grammar.proofs.class.class_of.Goals as goal

pub returns : goal.returns
unfolding class_of
returns c = c.number.ensures ∙ ap class_number c.of.ensures
