-- Trees as steps: the steps of the kids stand before those of their node.
use Rattle.std.specs.Prelude.{◌≡◌, ◌⊎◌, ℕ, Bool, false, filter, List, [], ◌∷◌, ◌++◌, length, map, Option, option_to_list, Ok, Err}
use Rattle.owl_tree.specs.declared.atom.Atom.{Atom}
use Rattle.owl_tree.specs.declared.atom.Atom.TheVariants as atom
use Rattle.owl_tree.specs.declared.tag.Tag.{Tag}
use Rattle.owl_tree.specs.declared.tag.Tag.TheVariants as tag
use Rattle.owl_tree.specs.Rows.{is_tag}
use Rattle.owl_tree.specs.Trees.{Tree, Kids, leaf, node, no_kids, kid, kids_of, list_of}
use Rattle.man_resolve.specs.declared.fault.ResolveFault.{ResolveFault}
use Rattle.man_resolve.specs.declared.fault.ResolveFault.TheVariants.{Memory}
use Rattle.man_resolve.specs.declared.step.Leaf.{Leaf}
use Rattle.man_resolve.specs.declared.step.Step.{Step}
use Rattle.man_resolve.specs.declared.step.Step.TheVariants as step
use Rattle.man_resolve.specs.Expressions.{Stem, Told}
use Rattle.man_resolve.specs.Items.{is_wanted}
use Rattle.man_resolve.specs.Places.{facet_iri}

-- a leaf, or a node over so many of the trees before it
pub data Build : Type 0 where
  a_leaf : Tag → Atom → Build
  a_node : Tag → ℕ → Build

abbrev mutual
  pub building : Tree → List Build
  building (leaf t a) = a_leaf t a ∷ []
  building (node t ks) = building_all ks ++ a_node t (length (list_of ks)) ∷ []

  pub building_all : Kids → List Build
  building_all no_kids = []
  building_all (kid t ks) = building t ++ building_all ks

abbrev pub all_built : List Tree → List Build
all_built ts = building_all (kids_of ts)

-- it makes the name of a data property
abbrev pub names_data : Build → Bool
names_data (a_leaf t a) = is_tag tag.DataProperty t
names_data (a_node t n) = false

-- what the program has
abbrev pub leaf_seen : Leaf → Tree
leaf_seen l = leaf l.tag l.atom.now

abbrev pub leaves : Option Leaf → List Tree
leaves o = map leaf_seen (option_to_list o)

abbrev pub seen : Step → Build
seen (step.Leaf l) = a_leaf l.tag l.atom.now
seen (step.Facet f) = a_leaf tag.Facet (atom.Iri (facet_iri f))
seen (step.Node t n) = a_node t n

abbrev pub built : List Step → List Build
built steps = map seen steps

-- the steps of what is meant are added
pub record AddsTree (old new : List Step) (wanted : Told Tree) : Type 0 where
  pub tree : Tree
  pub meant : wanted ≡ Ok tree
  pub added : built new ≡ built old ++ building tree

-- those of so many trees
pub record AddsTrees (old new : List Step) (count : ℕ) (wanted : Told (List Tree)) : Type 0 where
  pub trees : List Tree
  pub meant : wanted ≡ Ok trees
  pub counted : length trees ≡ count
  pub added : built new ≡ built old ++ all_built trees

-- those of all that are meant
pub record AddsAll (old new : List Step) (wanted : Told (List Tree)) : Type 0 where
  pub trees : List Tree
  pub meant : wanted ≡ Ok trees
  pub added : built new ≡ built old ++ all_built trees

-- the steps of what is meant are added where it is wanted
pub record AddsWanted (old new : List Step) (datas : Bool) (count : ℕ) (wanted : Told Tree) : Type 0 where
  pub tree : Tree
  pub meant : wanted ≡ Ok tree
  pub counted : length (filter (is_wanted datas) (tree ∷ [])) ≡ count
  pub added : built new ≡ built old ++ all_built (filter (is_wanted datas) (tree ∷ []))

-- those of so many kids of a node with the tag
pub record AddsKids (old new : List Step) (t : Tag) (count : ℕ) (wanted : Told Stem) : Type 0 where
  pub stem : Stem
  pub meant : wanted ≡ Ok stem
  pub tagged : stem.tag ≡ t
  pub counted : length stem.kids ≡ count
  pub added : built new ≡ built old ++ all_built stem.kids

-- this is what is wrong, or memory ran out
abbrev pub IsFaultOf : {X : Type 0} → Told X → ResolveFault → Type 0
IsFaultOf wanted f = (f ≡ Memory) ⊎ (wanted ≡ Err f)
