use Rattle.std.proofs.Common.{map, take}
use Rattle.owl_documents.specs.Documents.{parsed_of}
use Rattle.owl_answer.specs.KindsAt.{AreDeclaredAt}
use Rattle.owl_answer.proofs.kinds.declare_all.Given as goal

abbrev pub invariant-loop-place : goal.invariant-loop-place
invariant-loop-place l = AreDeclaredAt (map parsed_of l.docs) (take l.place-index l.places) l.kinds
