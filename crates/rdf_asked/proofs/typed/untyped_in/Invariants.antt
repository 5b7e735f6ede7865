use Rattle.std.specs.Prelude.{IfSome}
use Rattle.rdf_faults.specs.Faults.{IsUntypedPart}
use Rattle.rdf_roles.proofs.FirstLaws.{HoldsNowhereBelow}
use Rattle.rdf_asked.specs.Asking.{IsTypedNode}
use Rattle.rdf_asked.proofs.typed.untyped_in.Given as goal

abbrev pub invariant-loop-place : goal.invariant-loop-place
invariant-loop-place l =
    HoldsNowhereBelow (IsUntypedPart l.source.graph.now l.source.kinds.now) l.triple-items l.place × IfSome l.typed (λ x. IsTypedNode l.source.graph.now l.source.kinds.now x.now)
