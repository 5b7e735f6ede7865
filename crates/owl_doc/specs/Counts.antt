-- What an ontology counts: each up to structural equivalence.
use Rattle.std.specs.Prelude.{ℕ, List, [], ◌∷◌, ◌++◌, length}
use Rattle.owl_list.specs.Ascending.{ascending}
use Rattle.owl_tree.specs.Ontologies.{Ontology, canonical_list}
use Rattle.owl_tree.specs.Order.{tree_cmp}
use Rattle.owl_tree.specs.Trees.{Tree, Kids, leaf, node, no_kids, kid, kids_of}

-- a tree and all that stand below it, as often as they stand there
abbrev mutual
  pub subtrees : Tree → List Tree
  subtrees (leaf t a) = leaf t a ∷ []
  subtrees (node t ks) = node t ks ∷ subtrees_of ks

  pub subtrees_of : Kids → List Tree
  subtrees_of no_kids = []
  subtrees_of (kid t ks) = subtrees t ++ subtrees_of ks

abbrev pub axiom_count : Ontology → ℕ
axiom_count o = length (canonical_list o.axioms)

-- the distinct subtrees of its annotations and axioms
abbrev pub distinct_subtrees : Ontology → List Tree
distinct_subtrees o = ascending tree_cmp (subtrees_of (kids_of (canonical_list o.annotations ++ canonical_list o.axioms)))

abbrev pub distinct_count : Ontology → ℕ
distinct_count o = length (distinct_subtrees o)
