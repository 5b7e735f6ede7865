use Rattle.std.proofs.Common.{false, arith}
use borrow.Author.Tests.{ltb-false, ltb-true}
use Rattle.property_hierarchy.proofs.Chaining.{front_not_there, front_there, none_in_front}
use Rattle.property_hierarchy.proofs.chains.in_front_of.Goals as goal
use Rattle.property_hierarchy.proofs.chains.in_front_of.Goals.{in_default-via-then-parts-lt1, in_default-via-in-len1-up+else-eq}

pub returns-in-len1-up : goal.returns-in-len1-up
returns-in-len1-up c = front_there c.args.implied c.args.parts.now (record { place = 0; inverted = false }) c.eq.result c.in-len1-up.len_at_least c.eq.ensures c.if-eq.true

pub returns-in_default : goal.returns-in_default
returns-in_default c = elim c.in_default.branch [
  | in_default-via-then-parts-lt1 w ↦ none_in_front c.args.implied c.args.parts.now (omega (arith, ltb-true, ltb-false))
  | in_default-via-in-len1-up+else-eq w ↦ front_not_there c.args.implied c.args.parts.now (record { place = 0; inverted = false }) w.eq.result w.in-len1-up.len_at_least w.eq.ensures w.if-eq.false
]
