use Rattle.std.proofs.Common.{◌∙◌}
use Rattle.owl_characters.specs.Names.{is_label_start}
use Rattle.rdf_terms.proofs.Labels.{first_is}
use Rattle.rdf_terms.proofs.label.begins_as_label.Goals as goal

pub returns-in-Some : goal.returns-in-Some
returns-in-Some c =
    c.is_label_start.ensures ∙ first_is is_label_start c.args.text.now _ _ c.in-Some.c c.utf8.text c.chars.ensures.rest c.in-Some.ensures.steps.0
