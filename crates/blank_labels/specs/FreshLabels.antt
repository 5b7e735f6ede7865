-- Labels for blank nodes that have none in a document or an ontology (RDF 1.1 Turtle, section 7.2: each stands for a blank node of
-- its own).
use Rattle.std.specs.Prelude.{ℕ, suc, ◌+◌, Bool, ◌&&◌, cond, max, nat_eq, nat_le, List, [], ◌∷◌, codes, drop, get_or, length, not, Option, None, Some}
use Rattle.std.specs.Char.{is_ascii_digit}
use Rattle.std.specs.List.{flat_map, list_all, starts_with}
use Rattle.std.specs.Ordering.{nat_cmp}
use Rattle.std.specs.Str.Parse.{digits_value}
use Rattle.owl_list.specs.Ascending.{ascending}
use Rattle.blank_labels.specs.Labels.{label_number, labelled}

-- the greatest number of a label that is `gen` and 1 to 18 digits, or 0
abbrev pub greatest_number : List (List ℕ) → ℕ
greatest_number [] = 0
greatest_number (label ∷ labels) = max (label_number label) (greatest_number labels)

-- 19 digits without a leading zero
abbrev pub are_far : List ℕ → Bool
are_far ds = nat_eq (length ds) 19 && (not (nat_eq (get_or ds 0 0) 0x30) && list_all is_ascii_digit ds)

abbrev pub far_in : List ℕ → Option ℕ
far_in ds = cond (are_far ds) (Some (digits_value 10 ds)) None

-- the number of a label that is `gen` and such digits: a fresh number may come that far
abbrev pub far_number : List ℕ → Option ℕ
far_number label = cond (starts_with nat_eq label (codes "gen")) (far_in (drop 3 label)) None

abbrev pub or_none : Option ℕ → List ℕ
or_none None = []
or_none (Some n) = n ∷ []

-- the numbers of such labels, and these in ascending order
abbrev pub far_ones : List (List ℕ) → List ℕ
far_ones labels = flat_map (λ label. or_none (far_number label)) labels

unfoldable pub far_numbers : List (List ℕ) → List ℕ
far_numbers labels = ascending nat_cmp (far_ones labels)

-- the number, where those that are taken, which ascend, are passed over
abbrev pub passing : List ℕ → ℕ → ℕ
passing [] n = n
passing (t ∷ taken) n = cond (nat_le t n) (passing taken (suc n)) n

-- `gen` and a number; these begin behind the greatest, and pass over those that are taken
unfoldable pub numbered_label : ℕ → List ℕ → ℕ → List ℕ
numbered_label greatest taken n = labelled (passing taken (greatest + 1 + n))

-- The label of the blank node with this number among those that have none, beside these labels.
abbrev pub fresh_name : List (List ℕ) → ℕ → List ℕ
fresh_name labels n = numbered_label (greatest_number labels) (far_numbers labels) n
