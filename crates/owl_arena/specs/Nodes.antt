-- Nodes, of which each has its kids before it, and the trees that they stand for.
use Rattle.std.specs.Prelude.{◌≡◌, ◌⊎◌, ◌<◌, ℕ, suc, List, [], ◌∷◌, ◌++◌}
use Rattle.std.specs.List.{AllByRecursion}
use Rattle.owl_tree.specs.Trees.{Tree, depth, leaf, weight}
use Rattle.owl_arena.specs.declared.grow.Grow.{Grow}
use Rattle.owl_arena.specs.declared.grow.Grow.TheVariants.{BadShape, TooDeep, TooHeavy}
use Rattle.owl_arena.specs.declared.nodes.Form.{Form}
use Rattle.owl_arena.specs.declared.nodes.Form.TheVariants as form
use Rattle.owl_arena.specs.declared.nodes.Node.{Node}
use Rattle.owl_arena.specs.Held.{node_over}
use Rattle.owl_arena.specs.Shared.{AreShared}

-- the tree of a node whose kids are among the trees
abbrev pub tree_of : List Tree → Form → Tree
tree_of ts (form.Leaf tag atom) = leaf tag atom
tree_of ts (form.Branch tag kids) = node_over ts tag kids.items

-- the trees, and behind them those of nodes, each over what stands before it
abbrev pub grown : List Tree → List Node → List Tree
grown ts [] = ts
grown ts (n ∷ ns) = grown (ts ++ tree_of ts n.form ∷ []) ns

-- the same tag, and the same atom or kids
abbrev pub IsSameForm : Form → Form → Type 0
IsSameForm (form.Leaf t a) (form.Leaf u b) = (t ≡ u) × (a ≡ b)
IsSameForm (form.Leaf t a) (form.Branch u ls) = ⊥
IsSameForm (form.Branch t ks) (form.Leaf u b) = ⊥
IsSameForm (form.Branch t ks) (form.Branch u ls) = (t ≡ u) × (ks.items ≡ ls.items)

abbrev pub HasForm : Form → Node → Type 0
HasForm f n = IsSameForm n.form f

abbrev pub Differs : Form → Node → Type 0
Differs f n = IsSameForm n.form f → ⊥

abbrev pub AreKidsBelow : ℕ → Form → Type 0
AreKidsBelow place (form.Leaf tag atom) = Unit {0}
AreKidsBelow place (form.Branch tag kids) = AllByRecursion (λ kid. kid < place) kids.items

-- a node from this place on has its kids before it
abbrev pub HaveKidsBefore : ℕ → List Node → Type 0
HaveKidsBefore place [] = Unit {0}
HaveKidsBefore place (n ∷ ns) = AreKidsBelow place n.form × HaveKidsBefore (suc place) ns

-- the numbers kept beside a node are those of its tree
pub record IsMeasured (t : Tree) (n : Node) : Type 0 where
  pub depth : n.depth ≡ depth t
  pub weight : n.weight ≡ weight t

-- place by place
abbrev pub AreMeasured : List Tree → List Node → Type 0
AreMeasured ts [] = Unit {0}
AreMeasured ts (n ∷ ns) = IsMeasured (tree_of ts n.form) n × AreMeasured (ts ++ tree_of ts n.form ∷ []) ns

pub record IsArena (nodes : List Node) : Type 0 where
  pub in_order : HaveKidsBefore 0 nodes
  pub measured : AreMeasured [] nodes
  pub shared : AreShared (grown [] nodes)

-- why a node has no canonical form that may be kept
abbrev pub IsRefusal : Grow → Type 0
IsRefusal e = (e ≡ BadShape) ⊎ ((e ≡ TooDeep) ⊎ (e ≡ TooHeavy))
