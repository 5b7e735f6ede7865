use Rattle.std.proofs.Common.{◌≡◌, ◌≤◌, ◌++◌, ◌-◌, ◌+◌, ℕ, List, get_or, take, drop, length}
use Rattle.std.specs.Prelude.{nat_eq}
use Rattle.std.specs.List.{dedup_from}
use Rattle.owl_arena.proofs.sets.drop_repeats.Given as goal

-- what is kept, and what is left
abbrev pub squeezed : List ℕ → ℕ → ℕ → List ℕ
squeezed xs last i = take last xs ++ dedup_from nat_eq (get_or xs last 0) (drop i xs)

abbrev pub invariant-loop-place : goal.invariant-loop-place
invariant-loop-place l = record {
  kept : l.front + 1 ≤ l.kept;
  within : l.kept ≤ l.place;
  long : length l.kids.items ≡ length l.fn.kids.items;
  same : squeezed l.kids.items (l.kept - 1) l.place ≡ squeezed l.fn.kids.items l.front (l.front + 1);
}
