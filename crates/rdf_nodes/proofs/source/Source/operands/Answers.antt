use Rattle.std.proofs.Common.{IfSome, IsNone, refl, subst, sym}
use Rattle.std.specs.List.{AllByRecursion}
use Rattle.std.proofs.lemmas.List.{nil_from_length}
use Rattle.rdf_nodes.specs.Operands.{IsHeldAt, StandAt}
use Rattle.rdf_nodes.proofs.Steps.{AreOperandsBefore, all_parts, next_part}
use Rattle.rdf_nodes.proofs.source.Source.operands.Goals as goal

pub loop-part-preserved : goal.loop-part-preserved
loop-part-preserved c =
    let g = c.args.self.now.graph.now in
    let k = c.args.self.now.kinds.now in
    let roles = c.args.self.now.roles.now in
    let x = c.args.node.now in
    let ps = c.args.parts.now in
    let done = c.loop-part.operands.items in
    let before = subst (λ rest. AreOperandsBefore g k roles x ps done rest) c.in-Some.ensures.cases.0 c.loop-part.invariant.0 in
    let found = subst (λ f. IfSome f (λ os. StandAt g k roles x c.in-Some.part.now os.items)) c.in-Some-2.is c.in_ok-more.ensures.operands in (
      subst (λ os. AreOperandsBefore g k roles x ps os c.in-Some.behind.now) (sym c.in_ok-append.ensures.items)
          (next_part g k roles x ps done c.in-Some.part.now c.in-Some.behind.now c.in-Some-2.more.items before found),
      λ held. (subst (AllByRecursion (IsHeldAt g k x)) c.in-Some.ensures.cases.0 (c.loop-part.invariant.1 held)).1,
    )

pub returns-clause-operands : goal.returns-clause-operands
returns-clause-operands c =
    let g = c.args.self.now.graph.now in
    let k = c.args.self.now.kinds.now in
    let roles = c.args.self.now.roles.now in
    let done = c.loop-part.operands.items in
    all_parts g k roles c.args.node.now c.args.parts.now done
    (subst (λ rest. AreOperandsBefore g k roles c.args.node.now c.args.parts.now done rest) (nil_from_length c.loop-part.rest.now c.in_default.ensures.cases) c.loop-part.invariant.0)

pub returns-in_default-2-clause-none : goal.returns-in_default-2-clause-none
returns-in_default-2-clause-none c = λ _ held.
    let here = (subst (AllByRecursion (IsHeldAt c.args.self.now.graph.now c.args.self.now.kinds.now c.args.node.now)) c.in-Some.ensures.cases.0 (c.loop-part.invariant.1 held)).0 in
    c.in_ok-more.ensures.none (subst IsNone (sym c.in_default-2.is) refl) here
