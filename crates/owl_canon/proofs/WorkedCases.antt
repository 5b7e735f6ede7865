-- What the definitions say of some ontologies, worked out by hand.
use lib.Utf8.{encode}
use Rattle.std.proofs.Common.{◌≡◌, ℕ, List, [], ◌∷◌, ◌++◌, None, refl}
use Rattle.std.specs.Prelude.{codes, replicate}
use Rattle.owl_canon.specs.Bytes.{canonical_bytes, number_bytes}
use Rattle.owl_tree.specs.declared.atom.Atom.TheVariants as atom
use Rattle.owl_tree.specs.declared.tag.Tag.TheVariants as tag
use Rattle.owl_tree.specs.Ontologies.{Ontology}
use Rattle.owl_tree.specs.Rows.{row_of}
use Rattle.owl_tree.specs.Tags.{number_of}
use Rattle.owl_tree.specs.Trees.{Tree, kids_of, leaf, no_kids, node}

abbrev of_axioms : List Tree → Ontology
of_axioms axioms = record { head = record { name = None; imports = [] }; annotations = []; axioms = axioms }

-- Ontology()
nothing_said : canonical_bytes (of_axioms []) ≡ codes "OWL2C1\n" ++ replicate 26 0
unfolding number_bytes
nothing_said = refl

-- Declaration(Class(<a:b>))
abbrev declared : Tree
declared = node tag.Declaration (kids_of (node tag.Notes no_kids ∷ leaf tag.Class (atom.Iri (codes "a:b")) ∷ []))

-- Ontology(Declaration(Class(<a:b>)))
one_declared :
    canonical_bytes (of_axioms (declared ∷ []))
    ≡ codes "OWL2C1\n" ++ (replicate 25 0 ++ (1 ∷ 41 ∷ (replicate 7 0 ++ (2 ∷ 40 ∷ (replicate 8 0 ++ (1 ∷ (replicate 7 0 ++ (3 ∷ codes "a:b"))))))))
unfolding number_bytes number_of row_of encode
one_declared = refl
