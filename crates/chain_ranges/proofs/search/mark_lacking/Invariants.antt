use Rattle.std.proofs.Common.{◌≡◌, ◌<◌, ◌≤◌, ◌||◌, ℕ, false, get_or}
use Rattle.chain_ranges.specs.Marking.{lacks, pair_at}
use Rattle.chain_ranges.proofs.search.mark_lacking.Given as goal

abbrev pub invariant-chains : goal.invariant-chains
invariant-chains l = record {
  done : (k : ℕ) → k < l.place → get_or l.marks k false ≡ (get_or l.initial.marks k false || lacks l.imposed (pair_at l.chains k));
  rest : (k : ℕ) → l.place ≤ k → get_or l.marks k false ≡ get_or l.initial.marks k false;
}
