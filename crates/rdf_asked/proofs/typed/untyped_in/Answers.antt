use Rattle.std.proofs.Common.{IfSome, arith, refl, subst, sym}
use Rattle.std.proofs.lemmas.Bool.{both_ways}
use Rattle.rdf_asked.specs.Asking.{IsTypedNode}
use Rattle.rdf_asked.proofs.FirstUntyped.{goes_on, none_is, passes}
use Rattle.rdf_asked.proofs.typed.untyped_in.Goals as goal
use Rattle.rdf_asked.proofs.typed.untyped_in.Goals.{then-may_be_untyped+then-is_typed_node, then-may_be_untyped+else-is_typed_node+else-is_untyped, else-may_be_untyped}

pub loop-place-preserved : goal.loop-place-preserved
loop-place-preserved c =
    let g = c.args.source.now.graph.now in
    let k = c.args.source.now.kinds.now in
    let item = c.triple-item.result in
    let step = goes_on g k c.triples-triple-items.result.now c.triples-triple-items.ensures.triples c.loop-place.place item c.loop-place-test.true c.triple-item.is in
    let none = c.loop-place.invariant.0 in
    elim c.if-may_be_untyped.branch [
      | then-may_be_untyped+then-is_typed_node w ↦
          let node = w.is_typed_node.ensures w.if-is_typed_node.true in
          (step (node item refl) none, subst (λ typed. IfSome typed (λ x. IsTypedNode g k x.now)) (sym w.typed-is) node)
      | then-may_be_untyped+else-is_typed_node+else-is_untyped w ↦ (
        passes g k c.triples-triple-items.result.now c.triples-triple-items.ensures.triples c.loop-place.place item c.loop-place-test.true c.triple-item.is
            w.is_untyped.result w.is_untyped.ensures w.if-is_untyped.false none,
        subst (λ typed. IfSome typed (λ x. IsTypedNode g k x.now)) (sym w.typed-is) c.loop-place.invariant.1,
      )
      | else-may_be_untyped w ↦ (
        step (λ u. both_ways c.may_be_untyped.result w.if-may_be_untyped.false (c.may_be_untyped.ensures g k c.requires.source.table c.loop-place.invariant.1 u)) none,
        subst (λ typed. IfSome typed (λ x. IsTypedNode g k x.now)) (sym w.typed-is) c.loop-place.invariant.1,
      )
    ]

pub returns-clause-none : goal.returns-clause-none
returns-clause-none c e =
    none_is c.args.source.now.graph.now c.args.source.now.kinds.now c.triples-triple-items.result.now c.triples-triple-items.ensures.triples c.loop-place.place
    (omega (arith, c.loop-place.auto.place-end, c.loop-place-test.false)) c.loop-place.invariant.0
