use Rattle.iri_references.proofs.Rules.{by_the_rules}
use Rattle.iri_references.proofs.laws.dot_segments_go_by_the_rules.Goals as goal

pub returns : goal.returns
returns c = by_the_rules
