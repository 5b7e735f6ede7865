use Rattle.std.proofs.Common.{length, List}
use Rattle.std.specs.List.{AllByRecursion}
use Rattle.rdf_graph.specs.declared.term.Term.{Term}
use Rattle.rdf_annotations.specs.Annotations.{HasSet}
use Rattle.rdf_annotations.specs.Noters.{AreNumbersOf}
use Rattle.rdf_annotations.proofs.Setting.{AreSetsBefore}
use Rattle.rdf_annotations.proofs.annotated.Annotated.sets_of.Given as goal

abbrev pub invariant-loop-number : goal.invariant-loop-number
invariant-loop-number g l = record {
  found : (terms : List Term) → AreNumbersOf l.self.reading.roles.now terms l.numbers →
      AreSetsBefore (g.S.TreeStore.stands l._store) l.self.reading.graph.now l.self.reading.kinds.now l.self.reading.roles.now terms l.rest l.found.items;
  known : AllByRecursion (HasSet l.sets.of_nodes.items) l.rest;
}

abbrev pub decreases-loop-number : goal.decreases-loop-number
decreases-loop-number g l = length l.rest
