use Rattle.std.proofs.Common.{arith, rules}
use Rattle.std.proofs.lemmas.List.Sorted.{IsPermutation-put_mid, IsPermutation-trans}
use Rattle.owl_list.proofs.ranks.sort_ties.Goals as goal
use Rattle.owl_list.proofs.ranks.sort_ties.Goals.{then-next-tied, else-next-tied}

pub loop-place-preserved : goal.loop-place-preserved
loop-place-preserved g c =
    elim c.if-next-tied.branch [
      | then-next-tied w ↦ (IsPermutation-trans _ _ _ c.loop-place.invariant.0 (search (rules, IsPermutation-put_mid)), omega arith)
      | else-next-tied w ↦ (search rules, omega arith)
    ]

pub returns : goal.returns
returns g c = IsPermutation-trans _ _ _ c.loop-place.invariant.0 (search (rules, IsPermutation-put_mid))
