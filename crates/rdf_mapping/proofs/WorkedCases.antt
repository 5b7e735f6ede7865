-- Worked cases of what is drawn.
use Rattle.std.specs.Prelude.{◌≡◌, ℕ, List, [], ◌∷◌, ◌++◌, codes, refl}
use Rattle.std.specs.Fmt.{decimal}
use Rattle.owl_tree.specs.declared.atom.Atom.TheVariants as atom
use Rattle.owl_tree.specs.declared.tag.Tag.{Tag}
use Rattle.owl_tree.specs.declared.tag.Tag.TheVariants as tag
use Rattle.owl_tree.specs.Rows.{admits}
use Rattle.owl_tree.specs.Tags.{number_of}
use Rattle.owl_tree.specs.Trees.{Tree, leaf, node, kids_of}
use Rattle.rdf_terms.specs.Vocabulary.{owl, rdf}
use Rattle.rdf_graph.specs.declared.term.Term.TheVariants.{Iri, Blank}
use Rattle.rdf_meaning.specs.Words.{is_type, word_iri}
use Rattle.rdf_meaning.specs.Rows.{axiom_rows, node_rows}
use Rattle.rdf_mapping.specs.Forms.{link, triples}
use Rattle.rdf_mapping.specs.Drawing.{fit, form_of, is_pair, placed, row_for, statement_of}
use Rattle.rdf_mapping.specs.Graphs.{statement_triples}
use Rattle.rdf_mapping.specs.Notes.{no_notes}

gen : ℕ → List ℕ
gen n = codes "gen" ++ decimal n

abbrev name_leaf : Tag → List ℕ → Tree
name_leaf t iri = leaf t (atom.Iri iri)

abbrev no_annotations : Tree
no_annotations = node tag.Notes (kids_of [])

-- ObjectUnionOf(:A ObjectInverseOf..): a union is a node with a type and a list
a_union : (name : ℕ → List ℕ) → triples name (form_of (node tag.ObjectUnionOf (kids_of (name_leaf tag.Class (codes "A") ∷ name_leaf tag.Class (codes "B") ∷ [])))) 1
    ≡ link (Blank (name 1)) (rdf (codes "type")) (Iri (owl (codes "Class"))) ∷
    link (Blank (name 1)) (owl (codes "unionOf")) (Blank (name 2)) ∷
    link (Blank (name 2)) (rdf (codes "first")) (Iri (codes "A")) ∷
    link (Blank (name 2)) (rdf (codes "rest")) (Blank (name 3)) ∷
    link (Blank (name 3)) (rdf (codes "first")) (Iri (codes "B")) ∷
    link (Blank (name 3)) (rdf (codes "rest")) (Iri (rdf (codes "nil"))) ∷ []
unfolding admits fit is_type node_rows number_of placed row_for word_iri
a_union name = refl

-- InverseObjectProperties(ObjectInverseOf(:p) :q), in canonical order
inverses : (name : ℕ → List ℕ) → statement_triples name (statement_of (node tag.InverseObjectProperties (kids_of (no_annotations ∷ name_leaf tag.ObjectProperty (codes "q") ∷ node tag.ObjectInverseOf (kids_of (name_leaf tag.ObjectProperty (codes "p") ∷ [])) ∷ [])))) (no_notes ∷ []) 1
    ≡ link (Blank (name 1)) (owl (codes "inverseOf")) (Iri (codes "p")) ∷
    link (Iri (codes "q")) (owl (codes "inverseOf")) (Blank (name 1)) ∷ []
unfolding admits axiom_rows fit is_pair is_type node_rows number_of placed row_for word_iri
inverses name = refl

-- a set of one in a list has its element twice, with one node
a_set_of_one : (name : ℕ → List ℕ) → triples name (form_of (node tag.ObjectUnionOf (kids_of (name_leaf tag.Class (codes "A") ∷ [])))) 1
    ≡ link (Blank (name 1)) (rdf (codes "type")) (Iri (owl (codes "Class"))) ∷
    link (Blank (name 1)) (owl (codes "unionOf")) (Blank (name 2)) ∷
    link (Blank (name 2)) (rdf (codes "first")) (Iri (codes "A")) ∷
    link (Blank (name 2)) (rdf (codes "rest")) (Blank (name 3)) ∷
    link (Blank (name 3)) (rdf (codes "first")) (Iri (codes "A")) ∷
    link (Blank (name 3)) (rdf (codes "rest")) (Iri (rdf (codes "nil"))) ∷ []
unfolding admits fit is_type node_rows number_of placed row_for word_iri
a_set_of_one name = refl

-- EquivalentClasses(ObjectComplementOf(:A)): a set of one is a triple from its member to itself
a_loop : (name : ℕ → List ℕ) → statement_triples name (statement_of (node tag.EquivalentClasses (kids_of (no_annotations ∷ node tag.ObjectComplementOf (kids_of (name_leaf tag.Class (codes "A") ∷ [])) ∷ [])))) (no_notes ∷ []) 1
    ≡ link (Blank (name 1)) (rdf (codes "type")) (Iri (owl (codes "Class"))) ∷
    link (Blank (name 1)) (owl (codes "complementOf")) (Iri (codes "A")) ∷
    link (Blank (name 1)) (owl (codes "equivalentClass")) (Blank (name 1)) ∷ []
unfolding admits axiom_rows fit is_pair is_type node_rows number_of placed row_for word_iri
a_loop name = refl
