-- The first objection to what stands inside of trees, one after the other.
use Rattle.std.proofs.Common.{◌≡◌, ℕ, List, [], ◌∷◌, Option, None, Some, refl, ap, ◌∙◌}
use Rattle.std.specs.Option.{option_or}
use Rattle.owl_arena.specs.Held.{tree_at, trees_at}
use Rattle.owl_tree.proofs.TreeLaws.{kids_of_list_of}
use Rattle.owl_tree.specs.Trees.{Tree, leaf, node, kids_in, kids_of}
use Rattle.sayable_parts.proofs.WalkLaws.{first_along}
use Rattle.sayable_parts.specs.Reasons.{Objection}
use Rattle.man_sayable.specs.declared.inside.Look.{Look}
use Rattle.man_sayable.specs.Sayable.{inner_objection, kids_objection, own_objection}

module _ (look : Look) where
  -- a tree itself is first, and then its kids are
  pub own_first : (t : Tree) (why : Objection) → Some why ≡ own_objection look t → Some why ≡ inner_objection look t
  own_first (leaf t a) why e = e
  own_first (node t ks) why e = ap (λ (o : Option Objection). option_or o (kids_objection look ks)) e

  pub kids_next : (t : Tree) → None ≡ own_objection look t → kids_objection look (kids_of (kids_in t)) ≡ inner_objection look t
  kids_next (leaf t a) e = e
  kids_next (node t ks) e =
      ap (kids_objection look) (kids_of_list_of ks)
      ∙ ap (λ (o : Option Objection). option_or o (kids_objection look ks)) e

  module _ (ts : List Tree) where
    abbrev pub objection_at : ℕ → Option Objection
    objection_at id = inner_objection look (tree_at ts id)

    pub along_kids : (ids : List ℕ) → first_along objection_at ids ≡ kids_objection look (kids_of (trees_at ts ids))
    along_kids [] = refl
    along_kids (id ∷ ids) = ap (λ (o : Option Objection). option_or (objection_at id) o) (along_kids ids)
