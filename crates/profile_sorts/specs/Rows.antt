-- What all sorts ask of trees, tag by tag.
use Rattle.std.specs.Prelude.{◌≡◌, List, [], Some, map, slice_get, slice_index_or}
use Rattle.std.specs.Option.{option_map}
use Rattle.std.specs.declared.vec.Vec.{Vec}
use Rattle.owl_tree.specs.declared.tag.Tag.{Tag}
use Rattle.owl_tree.specs.Tags.{number_of as tag_number}
use Rattle.profile_sorts.specs.declared.production.Form as lent
use Rattle.profile_sorts.specs.declared.sort.Sort.{Sort}
use Rattle.profile_sorts.specs.Productions.{form_seen}
use Rattle.profile_sorts.specs.Sets.{number_of}
use Rattle.profile_sorts.specs.Sorts.{form_of}

-- the forms that the sorts ask for of trees with this tag, each at the number of the sort
pub record IsRowOf (t : Tag) (row : List lent.Form) : Type 0 where
  pub told : (s : Sort) → option_map form_seen (slice_get row (number_of s)) ≡ Some (form_of s t)

abbrev pub rows_of : {Z : Type 0} → List (Vec lent.Form Z) → List (List lent.Form)
rows_of = map (λ row. row.items)

-- the row in the place of the tag's number
abbrev pub row_at : List (List lent.Form) → Tag → List lent.Form
row_at rows t = slice_index_or rows (tag_number t) []

-- each tag has its row
abbrev pub AreRows : List (List lent.Form) → Type 0
AreRows rows = (t : Tag) → IsRowOf t (row_at rows t)
