use Rattle.std.proofs.Common.{List, map, subst}
use Rattle.owl_kind.specs.Kinds.{Entity}
use Rattle.owl_list.specs.Ascending.{HoldSame}
use Rattle.owl_declare.specs.Needed.{entity_of}
use Rattle.owl_declare.proofs.found.Found.into_needs.Goals as goal

pub returns : goal.returns
returns c = subst (λ (es : List Entity). HoldSame (map entity_of c.self.inside.needs.items) es) c.self.view_is c.self.invariant
