-- Labels that are `gen` and a number, and those of which the number is counted.
use Rattle.std.specs.Prelude.{ℕ, ◌==◌, ◌&&◌, not, Bool, false, List, [], ◌∷◌, ◌++◌, codes, drop, length, nat_eq, nat_le, if◌then◌else◌}
use Rattle.std.specs.Char.{is_ascii_digit}
use Rattle.std.specs.Fmt.{decimal}
use Rattle.std.specs.List.{list_all, starts_with}
use Rattle.std.specs.Str.Parse.{digits_value}

-- the digits of a number below 10^18, without a leading zero
abbrev pub are_counted : List ℕ → Bool
are_counted [] = false
are_counted (d ∷ ds) = not (d == 0x30) && (nat_le (length (d ∷ ds)) 18 && list_all is_ascii_digit (d ∷ ds))

abbrev pub counted_number : List ℕ → ℕ
counted_number ds = if are_counted ds then digits_value 10 ds else 0

-- the number of a label that is `gen` and such digits; other labels count as 0
abbrev pub label_number : List ℕ → ℕ
label_number label = if starts_with nat_eq label (codes "gen") then counted_number (drop 3 label) else 0

-- the label of a number
abbrev pub labelled : ℕ → List ℕ
labelled n = codes "gen" ++ decimal n
