-- Where there is nothing, there are no marks.
use Rattle.std.proofs.Common.{◌≡◌, ℕ, Bool, List, [], length, sym, ap, ◌∙◌, arith}
use Rattle.std.proofs.lemmas.Option.{slice_get_within}
use Rattle.graph_walks.specs.Marks.{MarkEach}

pub none_marked : {X : Type 0} (IsSo : ℕ → X → Type 0) (xs : List X) (marks : List Bool) → length xs ≡ 0 → marks ≡ [] → MarkEach IsSo xs marks
none_marked IsSo xs marks none unmarked = record {
  size = ap length unmarked ∙ sym none;
  told = λ place x is. let within = slice_get_within xs place x is in absurd (omega (arith, within, none));
}
