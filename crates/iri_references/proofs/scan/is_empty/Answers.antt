use Rattle.std.proofs.Common.{◌∙◌}
use Rattle.iri_references.proofs.Characters.{empty_is}
use Rattle.iri_references.proofs.scan.is_empty.Goals as goal

pub returns : goal.returns
returns c = c.is_empty.ensures ∙ empty_is c.args.text.now c.utf8.text
