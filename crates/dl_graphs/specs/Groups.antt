-- Marks of things that stand in groups, one group behind the other.
use Rattle.std.specs.Prelude.{ℕ, Bool, List, [], ◌∷◌, take, drop}
use Rattle.std.specs.List.{list_any}

-- for each group whether one of its marks is true; the counts say how many marks each has
abbrev pub group_marks : List ℕ → List Bool → List Bool
group_marks [] marks = []
group_marks (count ∷ counts) marks = list_any (λ mark. mark) (take count marks) ∷ group_marks counts (drop count marks)
