-- Cardinalities, as far as they fit 64 bits.
use Rattle.std.specs.Prelude.{ℕ, ◌^◌, cond, nat_lt, Option, None, Some}
use Rattle.owl_tree.specs.declared.atom.Atom.{Atom}
use Rattle.owl_tree.specs.declared.atom.Atom.TheVariants as atom
use Rattle.owl_tree.specs.Trees.{Tree, leaf, node}
use Rattle.rdf_rows.specs.declared.literals.Cardinality.{Cardinality}
use Rattle.rdf_rows.specs.declared.literals.Cardinality.TheVariants.{Number, TooLarge}

abbrev pub cardinality : ℕ → Cardinality
cardinality n = cond (nat_lt n (2 ^ 64)) (Number n) TooLarge

-- that of the leaf of a number
abbrev pub cardinality_in : Atom → Option Cardinality
cardinality_in (atom.Number n) = Some (cardinality n)
cardinality_in _ = None

abbrev pub cardinality_of : Option Tree → Option Cardinality
cardinality_of None = None
cardinality_of (Some (leaf t a)) = cardinality_in a
cardinality_of (Some (node t ks)) = None
