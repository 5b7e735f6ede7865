use Rattle.std.proofs.Common.{subst, sym, arith}
use Rattle.std.specs.Char.{IsScalar}
use Rattle.owl_characters.proofs.Utf8Bytes.{two_wrong, two_whole, least_bounds, last_bound}
use Rattle.owl_characters.proofs.utf8_states.judge_second.Goals as goal

pub returns-then-last-b : goal.returns-then-last-b
returns-then-last-b c = two_wrong c.args.a c.args.b c.least_second-least.result c.last_second-last.result c.requires.0 c.requires.1 c.least_second-least.ensures c.last_second-last.ensures c.if-last-b.either

pub returns-in-Some : goal.returns-in-Some
returns-in-Some c =
    let v = c.in-Some.ensures.value in
    let low = least_bounds c.args.a in
    let high = last_bound c.args.a in
    (subst IsScalar (sym v.1) v.0, two_whole c.args.a c.args.b c.in-Some.c c.requires.0 (omega arith) (omega arith) (omega arith) (omega (arith, v.1)))
