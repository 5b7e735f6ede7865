use Rattle.std.proofs.Common.{ap, arith, length, refl}
use Rattle.rdf_forward.proofs.Nodes.{some_placed}
use Rattle.rdf_forward.proofs.Placing.{none_at, nothing_at}
use Rattle.rdf_forward.proofs.Taking.{first_at}
use Rattle.rdf_forward.proofs.drawn.next_part.Goals as goal

pub returns-in_default-clause-none : goal.returns-in_default-clause-none
returns-in_default-clause-none c = λ _. nothing_at c.args.parts.now _ c.in_default.len_below

pub returns-in_default-take_part-clause-none : goal.returns-in_default-take_part-clause-none
returns-in_default-take_part-clause-none c =
    let e = first_at c.args.parts.now _ c.in-len1-up.len_at_least in
    λ _. none_at _ _ _ _ c.singles.result _ e c.singles.ensures.count (c.in_default-take_part.ensures.none refl)

pub returns-clause-some : goal.returns-clause-some
returns-clause-some c =
    let e = first_at c.args.parts.now _ c.in-len1-up.len_at_least in
    record {
      placed = some_placed _ _ _ _ c.singles.result _ _ _ e c.singles.ensures.count c.in-Some.ensures.some;
      drawn = c.in-Some.ensures.drawn;
      below = c.in-Some.ensures.others;
      fewer = omega (arith, ap length e);
    }
