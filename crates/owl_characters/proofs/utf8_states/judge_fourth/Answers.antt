use Rattle.std.proofs.Common.{subst, sym, arith}
use Rattle.std.specs.Char.{IsScalar}
use Rattle.owl_characters.proofs.Utf8Bytes.{four_wrong, four_whole, second_bounds}
use Rattle.owl_characters.proofs.utf8_states.judge_fourth.Goals as goal

pub returns-then-d-gt191 : goal.returns-then-d-gt191
returns-then-d-gt191 c = four_wrong c.args.a c.args.b c.args.c c.args.d c.requires.1 c.if-d-gt191.either

pub returns-in-Some : goal.returns-in-Some
returns-in-Some c =
    let v = c.in-Some.ensures.value in
    let lead = c.requires.0 in
    let bounds = second_bounds c.args.a c.args.b lead.most lead.second.0 lead.second.1 in
    (subst IsScalar (sym v.1) v.0, four_whole c.args.a c.args.b c.args.c c.args.d c.in-Some.c c.requires.1 bounds c.requires.2 c.requires.3 (omega arith) (omega arith) (omega (arith, v.1)))
