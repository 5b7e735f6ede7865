use Rattle.std.proofs.Common.{rules, ◌≡◌}
use Rattle.std.specs.Ordering.{is_lt}
use Rattle.std.proofs.lemmas.Fn.{always_returns_same}
use Rattle.owl_list.proofs.Adjacent.{ascends_if}
use Rattle.owl_list.proofs.is_ascending.Goals as goal

pub returns : goal.returns
returns g c =
    ascends_if g.T.Ord.cmp g.met.T.Ord.total c.args.items.now c.is_sorted_by.result
    (c.is_sorted_by.ensures.cases (λ a b. is_lt (g.T.Ord.cmp a b)) (always_returns_same _ (λ a r. r ≡ is_lt (g.T.Ord.cmp a.0.now a.1.0.now)) _ (λ a r f k. search rules)))
