use Rattle.std.proofs.Common.{◌∙◌, List, subst, sym}
use Rattle.std.proofs.lemmas.List.{take_all}
use Rattle.owl_kind.specs.Kinds.{Entity}
use Rattle.owl_doc.specs.Entities.{AddsAll, AddsSome}
use Rattle.rdf_graph.specs.declared.triple.Triple.{Triple}
use Rattle.rdf_scans.specs.Outlines.{declarations}
use Rattle.rdf_scans.proofs.Declaring.{more_declared, on_err, one_more_declared}
use Rattle.rdf_scans.proofs.declarations.declare_graph.Goals as goal

pub returns-in_err-declare-clause-err : goal.returns-in_err-declare-clause-err
returns-in_err-declare-clause-err c =
    let items = c.triples-triple-items in
    let some = more_declared items.result.now c.triples.triple-index c.args.kinds.now c.triples.kinds c.triples.invariant in
    let all = subst (λ (ts : List Triple). AddsSome c.args.kinds.now (declarations ts) c.triples.kinds) items.ensures.triples some in
    on_err _ c.from_residual.result (subst (λ (kinds : List Entity). AddsSome c.args.kinds.now (declarations c.args.graph.now) kinds) (sym c.in_err-declare.ensures.err) all)

pub triples-preserved : goal.triples-preserved
triples-preserved c =
    one_more_declared c.triples-triple-items.result.now c.triples.triple-index c.triple-item.result c.args.kinds.now c.triples.kinds c.declare.new.kinds c.triples-test.true c.triple-item.is c.triples.invariant c.in_ok-declare.ensures.ok

pub returns-clause-ok : goal.returns-clause-ok
returns-clause-ok c =
    let items = c.triples-triple-items in
    subst (λ (ts : List Triple). AddsAll c.args.kinds.now (declarations ts) c.triples.kinds) (take_all c.triples.triple-index items.result.now c.triples-test.false ∙ items.ensures.triples) c.triples.invariant
