use Rattle.std.proofs.Common.{◌↔◌, false, true, refl, subst, ◌∙◌}
use Rattle.std.specs.Prelude.{IsTrue}
use Rattle.std.specs.List.{AllByRecursion}
use Rattle.std.proofs.lemmas.List.{take_all}
use Rattle.rdf_meaning.specs.Rows.{row_seen}
use Rattle.rdf_asked.specs.Asking.{SuitsProperty}
use Rattle.rdf_asked.proofs.Suited.{one_fails, properties_are, refused}
use Rattle.rdf_asked.proofs.asked.suits_properties.Goals as goal

pub returns-then-not-suits_property : goal.returns-then-not-suits_property
returns-then-not-suits_property c =
    let asks = SuitsProperty c.args.source.now.graph.now c.args.source.now.kinds.now (row_seen c.args.row.now) in
    properties_are c.args.source.now.graph.now c.args.source.now.kinds.now (row_seen c.args.row.now) c.args.triple.now.subject false
    (subst (λ ts. IsTrue false ↔ AllByRecursion asks ts) c.about-other-items.ensures
    (one_fails asks c.about-other-items.result.now c.loop-other.other-index c.other-item.result c.loop-other-test.true c.other-item.is
    (refused c.suits_property.result c.suits_property.ensures c.if-not-suits_property.true)))

pub returns : goal.returns
returns c =
    let asks = SuitsProperty c.args.source.now.graph.now c.args.source.now.kinds.now (row_seen c.args.row.now) in
    properties_are c.args.source.now.graph.now c.args.source.now.kinds.now (row_seen c.args.row.now) c.args.triple.now.subject true (
      λ h. subst (AllByRecursion asks) (take_all c.loop-other.other-index c.about-other-items.result.now c.loop-other-test.false ∙ c.about-other-items.ensures) c.loop-other.invariant,
      λ all. refl,
    )
