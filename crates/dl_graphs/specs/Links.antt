-- Links between anonymous individuals, by the numbers of trees.
use Rattle.std.specs.Prelude.{◌≡◌, ◌<◌, ◌⊎◌, ℕ, Bool, false, if◌then◌else◌, List, [], ◌∷◌, ◌++◌, map, length, Option, None, Some, slice_get, slice_index_or}
use Rattle.std.specs.List.{AllByRecursion}
use Rattle.owl_list.specs.Ascending.{HoldSame}
use Rattle.dl_rules.specs.Assertions.{Link, link_of, links as links_of}
use Rattle.dl_rules.specs.Places.{place_of}
use Rattle.dl_rules.specs.Properties.{Property}
use Rattle.owl_tree.specs.declared.atom.Atom.TheVariants as atom
use Rattle.owl_tree.specs.declared.tag.Tag.TheVariants as tag
use Rattle.owl_tree.specs.Trees.{Tree, leaf, node, no_kids, kid}
use Rattle.dl_graphs.specs.declared.links.LinkIds.{LinkIds}
use Rattle.dl_graphs.specs.declared.links.Links.{Links}

-- the tree that is the property
abbrev pub property_tree : Property → Tree
property_tree p = if p.inverted then node tag.ObjectInverseOf (kid (leaf tag.ObjectProperty (atom.Iri p.iri)) no_kids) else leaf tag.ObjectProperty (atom.Iri p.iri)

-- the leaf that is the anonymous individual
abbrev pub label_leaf : List ℕ → Tree
label_leaf label = leaf tag.Anonymous (atom.Label label)

abbrev pub label_place : List Tree → List ℕ → ℕ
label_place ts label = place_of ts (label_leaf label)

-- such a leaf is among the trees
abbrev pub IsLabel : List Tree → List ℕ → Type 0
IsLabel ts label = label_place ts label < length ts

abbrev pub link_ids : List Tree → Link → LinkIds
link_ids ts l = record { property = place_of ts (property_tree l.property); subject = label_place ts l.subject; object = label_place ts l.object }

-- all of the link is among the trees
pub record IsHeldLink (ts : List Tree) (l : Link) : Type 0 where
  pub property : place_of ts (property_tree l.property) < length ts
  pub subject : IsLabel ts l.subject
  pub object : IsLabel ts l.object

-- the numbers are of the link, where there is one
abbrev pub IsLinkIf : List Tree → Option LinkIds → Option Link → Type 0
IsLinkIf ts None None = Unit {0}
IsLinkIf ts (Some ids) (Some l) = (ids ≡ link_ids ts l) × IsHeldLink ts l
IsLinkIf ts _ _ = ⊥

-- the link stands in this place, behind those before if it is none of them
pub record IsAdded (ts : List Tree) (l : Link) (old new : List LinkIds) (place : ℕ) : Type 0 where
  pub held : IsHeldLink ts l
  pub there : slice_get new place ≡ Some (link_ids ts l)
  pub grown : (new ≡ old) ⊎ (new ≡ old ++ link_ids ts l ∷ [])

-- so it is where there is a link
abbrev pub AddsLink : List Tree → Option Link → List LinkIds → List LinkIds → Option ℕ → Type 0
AddsLink ts None old new None = new ≡ old
AddsLink ts (Some l) old new (Some place) = IsAdded ts l old new place
AddsLink ts _ old new _ = ⊥

-- which of the links it is, where it is one
abbrev pub IsPlaced : List Link → Option Link → Option ℕ → Type 0
IsPlaced ls None None = Unit {0}
IsPlaced ls (Some l) (Some place) = slice_get ls place ≡ Some l
IsPlaced ls _ _ = ⊥

-- so it is of each axiom
abbrev pub ArePlaced : List Link → List Tree → List (Option ℕ) → Type 0
ArePlaced ls [] [] = Unit {0}
ArePlaced ls (t ∷ ts) (place ∷ places) = IsPlaced ls (link_of t) place × ArePlaced ls ts places
ArePlaced ls _ _ = ⊥

-- the numbers are of the links of these axioms, and each axiom has its place
pub record IsListing (ts axioms : List Tree) (ids : List LinkIds) (places : List (Option ℕ)) : Type 0 where
  pub links : List Link
  pub numbers : ids ≡ map (link_ids ts) links
  pub held : AllByRecursion (IsHeldLink ts) links
  pub same : HoldSame links (links_of axioms)
  pub placed : ArePlaced links axioms places

abbrev pub ends_at : LinkIds → ℕ × ℕ
ends_at ids = (ids.subject, ids.object)

-- no link stands in two places
abbrev pub StandOnce : List Link → Type 0
StandOnce ls = (j k : ℕ) (l : Link) → slice_get ls j ≡ Some l → slice_get ls k ≡ Some l → j ≡ k

-- these are the ends of the links of these axioms, each once, and each axiom has its place
pub record AreLinks (ts axioms : List Tree) (found : Links) : Type 0 where
  pub links : List Link
  pub once : StandOnce links
  pub held : AllByRecursion (IsHeldLink ts) links
  pub same : HoldSame links (links_of axioms)
  pub placed : ArePlaced links axioms found.places.items
  pub ends : found.ends.items ≡ map (λ (l : Link). (label_place ts l.subject, label_place ts l.object)) links

-- the mark in this place, if there is a place
abbrev pub mark_at : List Bool → Option ℕ → Bool
mark_at marks None = false
mark_at marks (Some place) = slice_index_or marks place false
