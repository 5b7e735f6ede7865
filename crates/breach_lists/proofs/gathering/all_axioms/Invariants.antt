use Rattle.std.proofs.Common.{◌≡◌, take}
use Rattle.breach_lists.proofs.AllAxioms.{axioms_in}
use Rattle.breach_lists.proofs.gathering.all_axioms.Given as goal

abbrev pub invariant-documents : goal.invariant-documents
invariant-documents l = l.axioms.items ≡ axioms_in (take l.document-index l.pooled)
