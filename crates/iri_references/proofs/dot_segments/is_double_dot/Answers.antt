use Rattle.std.proofs.Common.{refl, ◌∙◌}
use Rattle.iri_references.proofs.Characters.{word_is}
use Rattle.iri_references.proofs.dot_segments.is_double_dot.Goals as goal

pub returns : goal.returns
returns c = c.eq.ensures ∙ word_is c.args.segment.now _ c.utf8.segment refl
