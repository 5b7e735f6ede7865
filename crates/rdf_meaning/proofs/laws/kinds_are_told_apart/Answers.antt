use Rattle.rdf_meaning.proofs.KindLaws.{has_kind_is, no_shared}
use Rattle.rdf_meaning.proofs.laws.kinds_are_told_apart.Goals as goal

pub returns-clause-has_kind : goal.returns-clause-has_kind
returns-clause-has_kind c = has_kind_is

pub returns-clause-no_shared : goal.returns-clause-no_shared
returns-clause-no_shared c = no_shared
