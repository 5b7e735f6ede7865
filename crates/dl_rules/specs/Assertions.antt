-- Object property assertions between anonymous individuals, which have to be a forest (Structural Specification, section 11.2, "Restriction on the
-- anonymous individuals").
use Rattle.std.specs.Prelude.{◌≡◌, ℕ, Bool, ◌&&◌, not, List, [], ◌∷◌, map, Contains, Option, None, Some}
use Rattle.std.specs.List.{filter, filter_map}
use Rattle.graph_walks.specs.Walks.{Walks, both_ways}
use Rattle.owl_characters.specs.Order.{text_eq}
use Rattle.owl_tree.specs.declared.tag.Tag.{Tag}
use Rattle.owl_tree.specs.declared.tag.Tag.TheVariants as tag
use Rattle.owl_tree.specs.Trees.{Tree, tag_of}
use Rattle.dl_rules.specs.Logical.{label_in, operands}
use Rattle.dl_rules.specs.Properties.{Property, property_eq, property_in}

-- what an assertion says of two anonymous individuals, annotations aside
pub record Link : Type 0 where
  pub property : Property
  pub subject : List ℕ
  pub object : List ℕ

abbrev pub link_between : Option Property → Option (List ℕ) → Option (List ℕ) → Option Link
link_between (Some property) (Some subject) (Some object) = Some (record { property = property; subject = subject; object = object })
link_between _ _ _ = None

unfoldable pub link_over : Tag → List Tree → Option Link
link_over tag.ObjectPropertyAssertion (p ∷ t ∷ u ∷ []) = link_between (property_in p) (label_in t) (label_in u)
link_over _ ts = None

abbrev pub link_of : Tree → Option Link
link_of t = link_over (tag_of t) (operands t)

abbrev pub links : List Tree → List Link
links axioms = filter_map link_of axioms

abbrev pub link_eq : Link → Link → Bool
link_eq l m = property_eq l.property m.property && text_eq l.subject m.subject && text_eq l.object m.object

abbrev pub ends : Link → List ℕ × List ℕ
ends l = (l.subject, l.object)

-- the others of these, in either direction
abbrev pub ways_beside : List Link → Link → List (List ℕ × List ℕ)
ways_beside ls l = both_ways (map ends (filter (λ other. not (link_eq other l)) ls))

-- its individuals are joined by others; those of a loop by none
abbrev pub ClosesRing : List Link → Link → Type 0
ClosesRing ls l = Walks (ways_beside ls l) l.subject l.object

-- pairs of a child and its parent, which make these links a forest
pub record IsForest (ls : List Link) (parents : List (List ℕ × List ℕ)) : Type 0 where
  -- a child has one parent
  pub single : (child x y : List ℕ) → Contains parents (child, x) → Contains parents (child, y) → x ≡ y
  -- none is above itself
  pub acyclic : (child parent : List ℕ) → Contains parents (child, parent) → Walks parents parent child → ⊥
  -- each link is between a child and its parent
  pub between : (l : Link) → Contains ls l → Contains (both_ways parents) (ends l)
  -- and no other link is
  pub apart : (l m : Link) → Contains ls l → Contains ls m → Contains (both_ways (ends m ∷ [])) (ends l) → l ≡ m

pub record ForestExists (ls : List Link) : Type 0 where
  pub parents : List (List ℕ × List ℕ)
  pub is : IsForest ls parents
