-- Labels that are counted one by one, and fresh ones beside them.
use Rattle.std.specs.Prelude.{◌≡◌, ℕ, List, [], ◌++◌, max}
use Rattle.std.specs.Ordering.{nat_cmp}
use Rattle.owl_list.specs.Ascending.{ascending}
use Rattle.blank_labels.specs.FreshLabels.{far_ones, greatest_number, numbered_label}

-- What is known of labels that were counted: the greatest number of at most 18 digits, and the numbers of 19 digits, as they came.
pub record LabelNumbers : Type 0 where
  pub greatest : ℕ
  pub far : List ℕ

abbrev pub no_numbers : LabelNumbers
no_numbers = record { greatest = 0; far = [] }

-- these labels were counted since
pub record Counts (old new : LabelNumbers) (labels : List (List ℕ)) : Type 0 where
  pub greatest : new.greatest ≡ max old.greatest (greatest_number labels)
  pub far : new.far ≡ old.far ++ far_ones labels

-- the numbers of 19 digits in ascending order
abbrev pub arranged : LabelNumbers → LabelNumbers
arranged numbers = record numbers { far = ascending nat_cmp numbers.far }

-- the labels of nodes by their numbers, beside those of such numbers
abbrev pub names_beside : LabelNumbers → ℕ → List ℕ
names_beside numbers n = numbered_label numbers.greatest numbers.far n
