use Rattle.std.proofs.Common.{length}
use Rattle.std.specs.List.{AllByRecursion}
use Rattle.rdf_meaning.specs.Denotation.{Bearer}
use Rattle.rdf_statements.specs.Forms.{ArePlacesOf, IsGivenAt}
use Rattle.rdf_statements.proofs.Forming.{AreKidsUpTo}
use Rattle.rdf_statements.proofs.forms.kids_of_row.Given as goal

abbrev pub invariant-loop-part : goal.invariant-loop-part
invariant-loop-part l =
    (b : Bearer) → (ArePlacesOf l.source.graph.now b l.places → AreKidsUpTo l.source.graph.now l.source.kinds.now l.source.roles.now b l.parts l.kids.items l.rest)
    × (AllByRecursion (IsGivenAt l.source.graph.now l.source.kinds.now b) l.parts → AllByRecursion (IsGivenAt l.source.graph.now l.source.kinds.now b) l.rest)

abbrev pub decreases-loop-part : goal.decreases-loop-part
decreases-loop-part l = length l.rest
