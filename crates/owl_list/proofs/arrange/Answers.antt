use Rattle.std.proofs.Common.{sym}
use Rattle.owl_list.proofs.ArrangedLaws.{arranged}
use Rattle.owl_list.proofs.AscendingLaws.{ascending_again}
use Rattle.owl_list.specs.Ascending.{IsAscending}
use Rattle.std.proofs.Common.{subst}
use Rattle.owl_list.proofs.arrange.Goals as goal

pub returns-then-is_ascending : goal.returns-then-is_ascending
returns-then-is_ascending g c =
    sym (ascending_again g.T.Ord.cmp g.met.T.Ord.total c.requires c.args.items.now.items (subst (IsAscending g.T.Ord.cmp) c.deref.ensures.value (c.is_ascending.ensures c.if-is_ascending.true)))

pub returns : goal.returns
returns g c =
    arranged _ g.T.PartialEq.eq g.met.T.Ord.total g.met.T.Eq.laws g.met.T.Ord.matches_eq c.requires _ _ _ c.sort_unstable.ensures.permutation c.sort_unstable.ensures.sorted c.dedup.ensures.filtered
