use Rattle.std.proofs.Common.{subst, rules}
use Rattle.std.specs.List.Sorted.{IsPermutation}
use Rattle.std.proofs.lemmas.List.Sorted.{IsNonDecreasingBy-from_sort_by_key}
use Rattle.directed_graphs.specs.Ranks.{rank_in}
use Rattle.directed_graphs.proofs.ranks.nodes_by_rank.Goals as goal

pub returns : goal.returns
returns c =
    let sorted = c.sort_unstable_by_key.new.self.items in
    record {
      all = subst (λ xs. IsPermutation xs sorted) c.in_ok-sorted.ensures c.sort_unstable_by_key.ensures.permutation;
      ascending = IsNonDecreasingBy-from_sort_by_key (rank_in c.args.ranks.now) sorted c.sort_unstable_by_key.ensures.sorted (λ a r f h. search rules);
    }
