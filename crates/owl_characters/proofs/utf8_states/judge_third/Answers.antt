use Rattle.std.proofs.Common.{subst, sym, arith}
use Rattle.std.specs.Char.{IsScalar}
use Rattle.owl_characters.proofs.Utf8Bytes.{three_wrong, three_whole, second_bounds}
use Rattle.owl_characters.proofs.utf8_states.judge_third.Goals as goal

pub returns-then-c-gt191 : goal.returns-then-c-gt191
returns-then-c-gt191 c = three_wrong c.args.a c.args.b c.args.c c.requires.least c.if-c-gt191.either

pub returns-in-Some : goal.returns-in-Some
returns-in-Some c =
    let v = c.in-Some.ensures.value in
    let bounds = second_bounds c.args.a c.args.b c.requires.most c.requires.second.0 c.requires.second.1 in
    (subst IsScalar (sym v.1) v.0, three_whole c.args.a c.args.b c.args.c c.in-Some.c c.requires.least (omega arith) bounds (omega arith) (omega arith) (omega (arith, v.1)))
