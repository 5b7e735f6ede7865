use Rattle.std.proofs.Common.{subst, sym}
use Rattle.rdf_roles.proofs.Down.{AreLeft, left_ahead, left_found, left_last, left_no_node, left_not_own}
use Rattle.rdf_roles.proofs.ways.add_objects.Goals as goal

pub loop-triple-preserved-in_ok-push : goal.loop-triple-preserved-in_ok-push
loop-triple-preserved-in_ok-push c g e =
    subst (λ ways. AreLeft g c.args.role ways c.in-Some.behind.now c.args.ways.now.items c.args.triples.now) (sym c.in_ok-push.ensures.items)
    (left_found (left_ahead (c.loop-triple.invariant g e) c.in-Some.ensures.cases.0) (sym c.if-is_own.ensures) c.in-Some-number_of.number (c.in-Some-number_of.ensures g e))

pub loop-triple-preserved-in_default-number_of : goal.loop-triple-preserved-in_default-number_of
loop-triple-preserved-in_default-number_of c g e = left_no_node (left_ahead (c.loop-triple.invariant g e) c.in-Some.ensures.cases.0) (c.in_default-number_of.ensures g e)

pub loop-triple-preserved : goal.loop-triple-preserved
loop-triple-preserved c g e = left_not_own (left_ahead (c.loop-triple.invariant g e) c.in-Some.ensures.cases.0) (sym c.if-is_own.ensures)

pub returns : goal.returns
returns c g e = left_last g c.args.role _ _ _ _ c.in_default.ensures.cases (c.loop-triple.invariant g e)
