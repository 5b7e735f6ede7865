use Rattle.std.proofs.Common.{arith}
use Rattle.tree_stores.specs.Stores.{as_it_was, with_kids}
use Rattle.tree_stores.proofs.store.add_kids.Goals as goal

pub returns-then-saturating_sub-kids-clause-heavy : goal.returns-then-saturating_sub-kids-clause-heavy
returns-then-saturating_sub-kids-clause-heavy g c = λ old t size kept at. record {
  kids = c.in-Some.kids;
  new = c.in-Some.ensures old size kept t at;
  beyond = omega (arith, c.saturating_sub.ensures, c.if-saturating_sub-kids.true);
}

pub returns-else-saturating_sub-kids-clause-sum : goal.returns-else-saturating_sub-kids-clause-sum
returns-else-saturating_sub-kids-clause-sum g c = λ old t size kept at. with_kids c.in-Some.kids (c.in-Some.ensures old size kept t at)

pub returns-in-None-clause-sum : goal.returns-in-None-clause-sum
returns-in-None-clause-sum g c = λ old t size kept at. as_it_was
