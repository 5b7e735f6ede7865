use Rattle.owl_list.proofs.AscendingLaws.{ascending_ascends, ascending_holds, ascending_is, ascending_again, ascending_same, same_ascending}
use Rattle.owl_list.proofs.lists_in_order.Goals as goal

pub returns-clause-ascends : goal.returns-clause-ascends
returns-clause-ascends g c = ascending_ascends g.T.Ord.cmp g.met.T.Ord.total

pub returns-clause-holds : goal.returns-clause-holds
returns-clause-holds g c = ascending_holds g.T.Ord.cmp g.met.T.Ord.total c.requires

pub returns-clause-only : goal.returns-clause-only
returns-clause-only g c = ascending_is g.T.Ord.cmp g.met.T.Ord.total c.requires

pub returns-clause-again : goal.returns-clause-again
returns-clause-again g c = ascending_again g.T.Ord.cmp g.met.T.Ord.total c.requires

pub returns-clause-same : goal.returns-clause-same
returns-clause-same g c = λ xs ys. (
  ascending_same g.T.Ord.cmp g.met.T.Ord.total c.requires xs ys,
  same_ascending g.T.Ord.cmp g.met.T.Ord.total c.requires xs ys,
)
