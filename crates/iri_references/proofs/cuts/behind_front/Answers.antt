use Rattle.iri_references.proofs.Characters.{stripped_front}
use Rattle.iri_references.proofs.cuts.behind_front.Goals as goal

pub returns : goal.returns
returns c = stripped_front c.args.front.now c.args.text.now c.strip_prefix.result c.utf8.front c.strip_prefix.ensures.cases
