use Rattle.iri_references.proofs.Characters.{stripped_end}
use Rattle.iri_references.proofs.cuts.before_end.Goals as goal

pub returns : goal.returns
returns c = stripped_end c.args.end.now c.args.text.now c.strip_suffix.result c.utf8.text c.strip_suffix.ensures.cases
