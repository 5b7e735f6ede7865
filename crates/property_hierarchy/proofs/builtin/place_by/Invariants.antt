use Rattle.std.specs.Str.{chars}
use Rattle.owl_tree.specs.declared.atom.Atom.TheVariants as atom
use Rattle.owl_tree.specs.declared.tag.Tag.TheVariants as tag
use Rattle.owl_tree.specs.Trees.{leaf}
use Rattle.property_hierarchy.proofs.Placing.{IsNoneBefore}
use Rattle.property_hierarchy.proofs.builtin.place_by.Given as goal

abbrev pub invariant-places : goal.invariant-places
invariant-places l = IsNoneBefore l.arena.trees (leaf tag.ObjectProperty (atom.Iri (chars l.iri))) l.place
