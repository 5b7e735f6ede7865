use Rattle.std.proofs.Common.{◌∙◌, subst}
use Rattle.rdf_graph.specs.BySubject.{IsCountBelow, IsCountUpTo}
use Rattle.rdf_graph.proofs.Subjects.{IsSpan, span}
use Rattle.rdf_graph.proofs.graph.Graph.of_subject.Goals as goal

the_span : (c : goal.After-end_of_subject) → IsSpan c.args.self.now c.args.term.now c.count_below-below.result c.end_of_subject.result
the_span c =
    span (subst (IsCountBelow c.args.term.now c.count_below-below.result) (c.deref.ensures.value ∙ c.self.view_is) c.count_below-below.ensures)
    (subst (IsCountUpTo c.args.term.now c.end_of_subject.result) (c.deref-2.ensures.value ∙ c.self.view_is) c.end_of_subject.ensures)

pub returns-clause-ordered : goal.returns-clause-ordered
returns-clause-ordered c = (the_span c).ordered

pub returns-clause-among : goal.returns-clause-among
returns-clause-among c = (the_span c).among

pub returns-clause-before : goal.returns-clause-before
returns-clause-before c = (the_span c).before

pub returns-clause-behind : goal.returns-clause-behind
returns-clause-behind c = (the_span c).behind
