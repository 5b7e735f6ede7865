-- Ontologies of parts.
use Rattle.std.specs.Prelude.{ℕ, List}
use Rattle.owl_arena.specs.Held.{trees_at}
use Rattle.owl_doc.specs.declared.head.Head as held
use Rattle.owl_doc.specs.Heads.{head_of}
use Rattle.owl_tree.specs.Ontologies.{Ontology}
use Rattle.owl_tree.specs.Trees.{Tree}

-- this head, and as annotations and axioms the trees with these numbers
abbrev pub assembled : held.Head → List Tree → List ℕ → List ℕ → Ontology
assembled head trees notes axioms = record { head = head_of head; annotations = trees_at trees notes; axioms = trees_at trees axioms }
