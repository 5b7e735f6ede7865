-- The canonical bytes of an ontology.
use Rattle.std.specs.Prelude.{ℕ, List, [], ◌∷◌, ◌++◌, Option, None, Some, codes, flat_map, length}
use Rattle.std.specs.Int.{to_be_bytes, w64}
use Rattle.std.specs.Str.{encode_utf8_all}
use Rattle.owl_doc.specs.Heads.{iri_in, version_in}
use Rattle.owl_tree.specs.declared.atom.Atom.{Atom}
use Rattle.owl_tree.specs.declared.atom.Atom.TheVariants.{Iri, Label, Literal, Number}
use Rattle.owl_tree.specs.Ontologies.{Ontology, canonical_ontology}
use Rattle.owl_tree.specs.Tags.{number_of}
use Rattle.owl_tree.specs.Trees.{Tree, Kids, leaf, node, no_kids, kid, list_of}

-- a number is 8 bytes, the highest first
unfoldable pub number_bytes : ℕ → List ℕ
number_bytes n = to_be_bytes w64 n

-- a text is the number of its UTF-8 bytes, and these
abbrev pub text_bytes : List ℕ → List ℕ
text_bytes text = number_bytes (length (encode_utf8_all text)) ++ encode_utf8_all text

-- 0, or 1 and the text
abbrev pub optional_bytes : Option (List ℕ) → List ℕ
optional_bytes None = 0 ∷ []
optional_bytes (Some text) = 1 ∷ text_bytes text

-- of a literal the lexical form, the datatype and the language tag
abbrev pub atom_bytes : Atom → List ℕ
atom_bytes (Iri iri) = text_bytes iri
atom_bytes (Label label) = text_bytes label
atom_bytes (Literal literal) = text_bytes literal.lexical ++ (text_bytes literal.datatype ++ optional_bytes literal.tag)
atom_bytes (Number number) = number_bytes number

-- the number of the tag, and then the atom, or the number of the kids and these
abbrev mutual
  pub tree_bytes : Tree → List ℕ
  tree_bytes (leaf t a) = number_of t ∷ atom_bytes a
  tree_bytes (node t ks) = number_of t ∷ (number_bytes (length (list_of ks)) ++ kids_bytes ks)

  pub kids_bytes : Kids → List ℕ
  kids_bytes no_kids = []
  kids_bytes (kid t ks) = tree_bytes t ++ kids_bytes ks

-- how many there are, and each
abbrev pub counted : {X : Type 0} → (X → List ℕ) → List X → List ℕ
counted bytes xs = number_bytes (length xs) ++ flat_map bytes xs

-- an ontology as it stands: its name, what it imports, its annotations and its axioms
abbrev pub ontology_bytes : Ontology → List ℕ
ontology_bytes o =
    codes "OWL2C1\n"
    ++ (optional_bytes (iri_in o.head.name)
    ++ (optional_bytes (version_in o.head.name)
    ++ (counted text_bytes o.head.imports
    ++ (counted tree_bytes o.annotations
    ++ counted tree_bytes o.axioms))))

-- the bytes of the canonical form
abbrev pub canonical_bytes : Ontology → List ℕ
canonical_bytes o = ontology_bytes (canonical_ontology o)
