-- Numbers in a list and as marks.
use Rattle.std.specs.Prelude.{◌≡◌, ℕ, false, nat_eq, slice_index_or}
use Rattle.std.specs.List.{list_any}
use Rattle.owl_doc.specs.declared.collected.Collected.TheInside.{Inside}
use Rattle.owl_list.specs.Ascending.{AreApart}

-- no number stands twice, and there is a mark at a place exactly where its number stands in the list
pub record AreCollected (c : Inside) : Type 0 where
  pub once : AreApart c.ids.items
  pub marked : (id : ℕ) → slice_index_or c.marks.items id false ≡ list_any (nat_eq id) c.ids.items
