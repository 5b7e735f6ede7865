-- Prefixes in blocks: lists of which each goes on where the one before it ends.
use Rattle.std.specs.Prelude.{◌≡◌, ◌<◌, ℕ, zero, suc, Bool, true, false, List, [], ◌∷◌, length, flat_map, insert, slice_set}
use Rattle.std.specs.List.{AllByRecursion}
use Rattle.std.specs.Ordering.{is_le}
use Rattle.std.specs.declared.vec.Vec.{Vec}
use Rattle.owl_characters.specs.Order.{text_cmp}
use Rattle.owl_atom.specs.declared.prefixes.Prefix.{Prefix}
use Rattle.owl_atom.specs.Places.{IsPlaceOf, IsGapFor}
use Rattle.owl_atom.specs.Prefixes.{AreAscending}
use Rattle.owl_atom.specs.PrefixLaws.{Above, Below}

-- a prefix is put in the place of the one of its name, or as a new one where it is to stand
abbrev pub Puts : List Prefix → List Prefix → Prefix → Bool → Type 0
Puts old new prefix false = (place : ℕ) × IsPlaceOf old prefix.name place × (new ≡ slice_set old place prefix)
Puts old new prefix true = (place : ℕ) × IsGapFor old prefix.name place × (new ≡ insert old place prefix)

-- the first of the names is this one, or less
abbrev pub begins_by : List ℕ → List Prefix → Bool
begins_by name [] = true
begins_by name (prefix ∷ others) = is_le (text_cmp prefix.name name)

module _ {Z : Type 0} where
  -- the prefixes of all blocks
  abbrev pub flat : List (Vec Prefix Z) → List Prefix
  flat blocks = flat_map (λ block. block.items) blocks

  -- no block is empty
  abbrev pub AreFilled : List (Vec Prefix Z) → Type 0
  AreFilled blocks = AllByRecursion (λ block. 0 < length block.items) blocks

  -- the block in which a prefix of this name stands, or is to stand
  abbrev pub IsBlockFor : List (Vec Prefix Z) → List ℕ → ℕ → Type 0
  IsBlockFor [] name n = Unit {0}
  IsBlockFor (block ∷ blocks) name zero = Below name (flat blocks)
  IsBlockFor (block ∷ blocks) name (suc n) = Above name block.items × IsBlockFor blocks name n

  -- what the blocks of a table are
  pub record AreBlocks (blocks : List (Vec Prefix Z)) (len : ℕ) : Type 0 where
    pub filled : AreFilled blocks
    pub ascending : AreAscending (flat blocks)
    pub count : len ≡ length (flat blocks)
