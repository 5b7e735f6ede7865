-- The order of trees by their roots alone.
use Rattle.std.specs.Prelude.{Option, None, Some}
use Rattle.std.specs.declared.cmp.Ordering.{Ordering}
use Rattle.std.specs.declared.cmp.Ordering.TheVariants.{Less, Equal, Greater}
use Rattle.std.specs.Ordering.{ordering_then}
use Rattle.owl_tree.specs.declared.atom.Atom.{Atom}
use Rattle.owl_tree.specs.Order.{atom_cmp, tag_cmp}
use Rattle.owl_tree.specs.Trees.{Tree, atom_in, tag_of}

-- an atom comes before none
abbrev pub atoms_cmp : Option Atom → Option Atom → Ordering
atoms_cmp (Some a) (Some b) = atom_cmp a b
atoms_cmp (Some a) None = Less
atoms_cmp None (Some b) = Greater
atoms_cmp None None = Equal

-- by tag, then by atom, a leaf before a node
abbrev pub roots_cmp : Tree → Tree → Ordering
roots_cmp t u = ordering_then (tag_cmp (tag_of t) (tag_of u)) (atoms_cmp (atom_in t) (atom_in u))
