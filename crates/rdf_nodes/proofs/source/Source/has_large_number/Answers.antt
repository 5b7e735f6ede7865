use Rattle.std.proofs.Common.{refl}
use Rattle.std.proofs.lemmas.List.{nil_from_length}
use Rattle.std.proofs.lemmas.Bool.{both_ways}
use Rattle.rdf_nodes.proofs.Scanning.{found_large, none_large, not_scanned, one_more_scanned}
use Rattle.rdf_nodes.proofs.source.Source.has_large_number.Goals as goal

pub loop-triple-init : goal.loop-triple-init
loop-triple-init c = not_scanned c.args.self.now.graph.now c.triples-rest.result.now c.triples-rest.ensures.triples

pub loop-triple-preserved : goal.loop-triple-preserved
loop-triple-preserved c =
    one_more_scanned c.args.self.now.graph.now c.loop-triple.rest.now c.in-Some.triple.now c.in-Some.behind.now c.loop-triple.invariant c.in-Some.ensures.cases.0
    (λ is. both_ways c.is_large.result c.if-is_large.false (c.is_large.ensures.1 is))

pub returns-then-is_large : goal.returns-then-is_large
returns-then-is_large c = (
  λ h. found_large c.args.self.now.graph.now c.loop-triple.rest.now c.in-Some.triple.now c.in-Some.behind.now c.loop-triple.invariant c.in-Some.ensures.cases.0
      (c.is_large.ensures.0 c.if-is_large.true),
  λ h. refl,
)

pub returns : goal.returns
returns c = (
  λ h. cc,
  λ h. absurd (none_large c.args.self.now.graph.now c.loop-triple.rest.now c.loop-triple.invariant (nil_from_length c.loop-triple.rest.now c.in_default.ensures.cases) h),
)
