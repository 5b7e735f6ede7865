use Rattle.std.proofs.Common.{ap, ◌∙◌, drop, take, ◌-◌}
use Rattle.rdf_graph.proofs.SubjectLaws.{triples_between}
use Rattle.rdf_graph.proofs.graph.Graph.about.Goals as goal

pub returns : goal.returns
returns c =
    let span = c.of_subject-start in
    ap (λ triples. take (span.result.1 - span.result.0) (drop span.result.0 triples)) (c.deref.ensures.value ∙ c.self.view_is)
    ∙ triples_between c.args.self.now c.args.term.now span.result.0 span.result.1 span.ensures.among
