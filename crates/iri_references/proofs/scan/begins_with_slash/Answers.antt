use Rattle.iri_references.specs.References.{slash}
use Rattle.iri_references.proofs.Characters.{begins_is}
use Rattle.iri_references.proofs.scan.begins_with_slash.Goals as goal

pub returns : goal.returns
returns c = begins_is slash c.args.text.now c.starts_with.result c.utf8.text c.starts_with.ensures.cases
