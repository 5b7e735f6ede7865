use Rattle.std.proofs.Common.{◌<◌, length, IsTrue, arith, refl, rules, subst, sym}
use Rattle.owl_documents.proofs.Refusing.{counted_more, longer_by, taken_more}
use Rattle.owl_documents.proofs.reading.feed_document.Goals as goal

pub returns-clause-longer : goal.returns-clause-longer
returns-clause-longer g c = λ tells _.
    let fed = c.loop-size.invariant.fed in
    let most = c.loop-size.invariant.most in
    let counted = c.loop-size.invariant.counted in
    let left = c.loop-size-test.false in
    let more : c.args.room < length fed = omega arith in
    longer_by _ _ fed c.args.room (c.loop-size.invariant.taken tells) (c.loop-size.invariant.lacks tells) more

pub loop-size-preserved : goal.loop-size-preserved
loop-size-preserved g c = record {
  most = refl;
  within = search rules;
  fed = _;
  counted = counted_more _ c.in_ok-count.count c.loop-size.invariant.fed c.read.new.into _ c.loop-size.invariant.counted c.in_ok-count.ensures.bound;
  read = λ base empty. c.take.ensures base _ (c.loop-size.invariant.read base empty);
  told = search rules;
  taken = λ tells. taken_more _ _ _ c.loop-size.invariant.fed c.read.new.into _ c.in_ok-count.count (c.loop-size.invariant.taken tells) (c.in_ok-count.ensures.bytes (subst IsTrue (sym c.loop-size.invariant.told) tells)) c.in_ok-count.ensures.bound;
  lacks = search rules;
  faults = search rules;
  others = search rules;
  counts = search rules;
}
