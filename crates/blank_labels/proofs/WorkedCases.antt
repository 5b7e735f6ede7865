-- Worked cases: which labels are counted, and which are fresh.
use Rattle.std.specs.Prelude.{◌≡◌, ℕ, List, [], ◌∷◌, codes, refl}
use Rattle.std.specs.Fmt.{digits}
use Rattle.blank_labels.specs.Labels.{label_number}
use Rattle.blank_labels.specs.FreshLabels.{far_numbers, fresh_name, numbered_label}

pub one_digit : label_number (codes "gen7") ≡ 7
one_digit = refl

pub no_digit : label_number (codes "gen") ≡ 0
no_digit = refl

pub leading_zero : label_number (codes "gen07") ≡ 0
leading_zero = refl

pub zero_alone : label_number (codes "gen0") ≡ 0
zero_alone = refl

pub most_digits : label_number (codes "gen123456789012345678") ≡ 123456789012345678
most_digits = refl

pub too_many_digits : label_number (codes "gen1234567890123456789") ≡ 0
too_many_digits = refl

pub another_front : label_number (codes "xgen7") ≡ 0
another_front = refl

pub letter_behind : label_number (codes "gen7a") ≡ 0
letter_behind = refl

-- beside labels

pub first_of_none : fresh_name [] 0 ≡ codes "gen1"
unfolding digits far_numbers numbered_label
first_of_none = refl

pub second_behind_three : fresh_name (codes "gen3" ∷ codes "a" ∷ codes "gen2" ∷ []) 1 ≡ codes "gen5"
unfolding digits far_numbers numbered_label
second_behind_three = refl

-- behind the greatest number that is counted stand those of 19 digits, of which those that are taken are passed over

abbrev most : List ℕ
most = codes "gen999999999999999999"

pub behind_the_most : fresh_name (most ∷ []) 0 ≡ codes "gen1000000000000000000"
unfolding digits far_numbers numbered_label
behind_the_most = refl

pub taken_is_passed_over : fresh_name (codes "gen1000000000000000000" ∷ most ∷ []) 0 ≡ codes "gen1000000000000000001"
unfolding digits far_numbers numbered_label
taken_is_passed_over = refl

pub second_of_two_is_taken : fresh_name (most ∷ codes "gen1000000000000000001" ∷ []) 1 ≡ codes "gen1000000000000000002"
unfolding digits far_numbers numbered_label
second_of_two_is_taken = refl

pub taken_without_the_most : fresh_name (codes "gen1000000000000000000" ∷ []) 0 ≡ codes "gen1"
unfolding digits far_numbers numbered_label
taken_without_the_most = refl

pub not_counted : label_number (codes "gen1000000000000000000") ≡ 0
not_counted = refl
