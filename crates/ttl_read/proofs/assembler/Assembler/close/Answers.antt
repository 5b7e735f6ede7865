use Rattle.std.proofs.Common.{◌≡◌, ◌≤◌, ◌<◌, ◌∙◌, Err, ap, length, rules, subst, sym}
use Rattle.rdf_graph.specs.Graphs.{most_triples}
use Rattle.rdf_graph.specs.declared.fault.GraphFault.TheVariants as graph
use Rattle.ttl_grammar.specs.Labels.{graph_of}
use Rattle.ttl_grammar.specs.States.{Facts}
use Rattle.ttl_read.specs.Keeping.{AreKept}
use Rattle.ttl_read.proofs.Closing.{closed_beyond, closed_over, closed_within}
use Rattle.ttl_read.proofs.assembler.Assembler.close.Goals as goal

pub returns-then-len-gt-MOST_TRIPLES : goal.returns-then-len-gt-MOST_TRIPLES
returns-then-len-gt-MOST_TRIPLES c = λ state h other.
    let many : most_triples < length c.into_triples-triples.result.keys = search rules in
    closed_over c.args.self.now state c.into_triples-triples.result.keys h
    (c.into_triples-triples.ensures.triples ∙ ap (λ (f : Facts). f.triples) c.replace-facts.ensures.value)
    (subst AreKept (sym c.into_triples-triples.ensures.triples) c.into_triples-triples.ensures.kept) many

pub returns-in-Ok : goal.returns-in-Ok
returns-in-Ok c = λ state h.
    let few : length c.into_triples-triples.result.keys ≤ most_triples = search rules in
    closed_within c.args.self.now c.replace-facts.new.dest c.in-Ok.graph state c.into_triples-triples.result.keys h
    (c.into_triples-triples.ensures.triples ∙ ap (λ (f : Facts). f.triples) c.replace-facts.ensures.value) few c.in-Ok.ensures.ok c.in-Ok.ensures.few

pub returns-in-Err : goal.returns-in-Err
returns-in-Err c = λ state h other.
    let few : length c.into_triples-triples.result.keys ≤ most_triples = search rules in
    let long : c.in-Err.fault ≡ graph.TooMany → most_triples < length (graph_of c.into_triples-triples.result.keys) = λ e. c.in-Err.ensures.too_many (ap Err e) in
    closed_beyond c.args.self.now state c.into_triples-triples.result.keys c.in-Err.fault h
    (c.into_triples-triples.ensures.triples ∙ ap (λ (f : Facts). f.triples) c.replace-facts.ensures.value) few long (λ e. other (c.of_graph.ensures ∙ e))
    ∙ ap Err (sym c.of_graph.ensures)
