use Rattle.owl_declare.proofs.FoundLaws.{nothing}
use Rattle.owl_declare.proofs.found.Found.new.Goals as goal

pub invariant_of-result : goal.invariant_of-result
invariant_of-result c = nothing c.new-2.result.items c.new.result c.new-2.ensures.items c.new.ensures

pub returns : goal.returns
returns c = λ e. c.new.ensures e.kind e.iri
