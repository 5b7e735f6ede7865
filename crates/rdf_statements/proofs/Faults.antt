-- Trees that are too deep or too heavy.
use Rattle.std.specs.Prelude.{List, Contains}
use Rattle.std.proofs.Common.{arith}
use Rattle.owl_tree.specs.declared.tag.Tag.{Tag}
use Rattle.owl_tree.specs.Trees.{Tree, node, kids_of}
use Rattle.tree_stores.specs.Stores.{IsTreeFault}
use Rattle.tree_stores.specs.declared.fault.TreeFault.{TreeFault}
use Rattle.tree_stores.specs.declared.fault.TreeFault.TheVariants.{TooDeep, TooHeavy, Memory}
use Rattle.rdf_annotations.specs.Annotations.{IsFaultOfSome}
use Rattle.rdf_statements.proofs.PartLaws.{kid_depth, kid_weight}

pub fault_of_some : {H : Type 0} (P Q : Tree → Type 0) → ((t : Tree) → P t → Q t) → (f : TreeFault H) → IsFaultOfSome P f → IsFaultOfSome Q f
fault_of_some P Q w TooDeep h = (h.0, w h.0 h.1, h.2)
fault_of_some P Q w (TooHeavy _) h = (h.0, w h.0 h.1, h.2)
fault_of_some P Q w Memory h = tt

pub fault_of_one : {H : Type 0} (Q : Tree → Type 0) (t : Tree) → Q t → (f : TreeFault H) → IsTreeFault t f → IsFaultOfSome Q f
fault_of_one Q t q TooDeep h = (t, q, h)
fault_of_one Q t q (TooHeavy _) h = (t, q, h)
fault_of_one Q t q Memory h = tt

-- a node has the fault of a kid
pub fault_of_node : {H : Type 0} (tag : Tag) (ts : List Tree) (t : Tree) → Contains ts t → (f : TreeFault H) → IsTreeFault t f → IsTreeFault (node tag (kids_of ts)) f
fault_of_node tag ts t m TooDeep h = let deeper = kid_depth tag ts t m in omega (arith, deeper, h)
fault_of_node tag ts t m (TooHeavy _) h = let heavier = kid_weight tag ts t m in omega (arith, heavier, h)
fault_of_node tag ts t m Memory h = tt

-- so where some tree has it
pub fault_by_some : {H : Type 0} (P Q : Tree → Type 0) → (f : TreeFault H) → ((t : Tree) → P t → IsTreeFault t f → IsFaultOfSome Q f) → IsFaultOfSome P f → IsFaultOfSome Q f
fault_by_some P Q TooDeep w h = w h.0 h.1 h.2
fault_by_some P Q (TooHeavy _) w h = w h.0 h.1 h.2
fault_by_some P Q Memory w h = tt
