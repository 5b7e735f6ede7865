-- The canonical bytes of ontologies, and structural equivalence.
use Rattle.std.proofs.Common.{◌≡◌, ℕ, List, [], ◌∷◌, ◌++◌, Option, Some, None, refl, sym, ap, ◌∙◌, subst}
use Rattle.std.specs.Prelude.{codes}
use Rattle.std.specs.List.{AllByRecursion}
use Rattle.std.proofs.lemmas.List.{append-nil}
use Rattle.owl_canon.specs.Bytes.{canonical_bytes, counted, ontology_bytes, optional_bytes, text_bytes, tree_bytes}
use Rattle.owl_canon.specs.Limits.{AreFew, HasBytes, IsCountable, IsText, IsWithinLimits, ReadsCanonical}
use Rattle.owl_canon.proofs.Unambiguous.{AreSame, counted_same, optionals, texts, trees}
use Rattle.owl_canon.proofs.WholeDocuments.{annotations_shaped, axioms_shaped}
use Rattle.owl_doc.specs.Heads.{iri_in, name_of, version_in}
use Rattle.owl_tree.specs.Ontologies.{IsOntology, IsSameOntology, Ontology, OntologyName, canonical_ontology}
use Rattle.owl_tree.specs.Shape.{IsShaped}
use Rattle.owl_tree.specs.Trees.{Tree}
use Rattle.owl_tree.proofs.OntologyLaws.{canonical_is_ontology, same_ontology_is_equal_form}

-- the name of its parts
name_again : (name : Option OntologyName) → name_of (iri_in name) (version_in name) ≡ name
name_again None = refl
name_again (Some name) = refl

names_same : (a b : Option OntologyName) → iri_in a ≡ iri_in b → version_in a ≡ version_in b → a ≡ b
names_same a b e f = sym (name_again a) ∙ ap (λ (iri : Option (List ℕ)). name_of iri (version_in a)) e ∙ ap (name_of (iri_in b)) f ∙ name_again b

abbrev parts : Option OntologyName → List (List ℕ) → List Tree → List Tree → Ontology
parts name imports notes axioms = record { head = record { name = name; imports = imports }; annotations = notes; axioms = axioms }

-- a tree of an ontology that has bytes
record IsTold (t : Tree) : Type 0 where
  shaped : IsShaped t
  countable : IsCountable t

told_each : (ts : List Tree) → AllByRecursion IsShaped ts → AllByRecursion IsCountable ts → AllByRecursion IsTold ts
told_each [] h k = tt
told_each (t ∷ ts) h k = (record { shaped = h.0; countable = k.0 }, told_each ts h.1 k.1)

told : (ts : List Tree) → AllByRecursion IsShaped ts → AreFew IsCountable ts → AreFew IsTold ts
told ts h k = record { few = k.few; each = told_each ts h k.each }

trees_told : (t u : Tree) (more others : List ℕ) → IsTold t → IsTold u → tree_bytes t ++ more ≡ tree_bytes u ++ others → AreSame t u more others
trees_told t u more others h k e = trees t u more others h.shaped k.shaped h.countable k.countable e

abbrev notes_of : Ontology → List ℕ
notes_of o = counted tree_bytes o.annotations ++ counted tree_bytes o.axioms

abbrev imports_of : Ontology → List ℕ
imports_of o = counted text_bytes o.head.imports ++ notes_of o

abbrev versions_of : Ontology → List ℕ
versions_of o = optional_bytes (version_in o.head.name) ++ imports_of o

abbrev names_of : Ontology → List ℕ
names_of o = optional_bytes (iri_in o.head.name) ++ versions_of o

beginning : (xs ys : List ℕ) → codes "OWL2C1\n" ++ xs ≡ codes "OWL2C1\n" ++ ys → xs ≡ ys
beginning xs ys e = cc

-- ontologies as they stand
only_these : (o p : Ontology) → IsOntology o → IsOntology p → HasBytes o → HasBytes p → ontology_bytes o ≡ ontology_bytes p → o ≡ p
only_these o p h k b c e =
    let iris = optionals (iri_in o.head.name) (iri_in p.head.name) (versions_of o) (versions_of p) b.iri c.iri (beginning (names_of o) (names_of p) e) in
    let versions = optionals (version_in o.head.name) (version_in p.head.name) (imports_of o) (imports_of p) b.version c.version iris.behind in
    let imports = counted_same text_bytes IsText texts o.head.imports p.head.imports (notes_of o) (notes_of p) b.imports c.imports versions.behind in
    let notes = counted_same tree_bytes IsTold trees_told o.annotations p.annotations (counted tree_bytes o.axioms) (counted tree_bytes p.axioms)
    (told o.annotations (annotations_shaped o.annotations h.annotations) b.annotations) (told p.annotations (annotations_shaped p.annotations k.annotations) c.annotations) imports.behind in
    let axioms = counted_same tree_bytes IsTold trees_told o.axioms p.axioms [] []
    (told o.axioms (axioms_shaped o.axioms h.axioms) b.axioms) (told p.axioms (axioms_shaped p.axioms k.axioms) c.axioms)
    (append-nil (counted tree_bytes o.axioms) ∙ notes.behind ∙ sym (append-nil (counted tree_bytes p.axioms))) in
    ap (λ (name : Option OntologyName). parts name o.head.imports o.annotations o.axioms) (names_same o.head.name p.head.name iris.same versions.same)
    ∙ ap (λ (xs : List (List ℕ)). parts p.head.name xs o.annotations o.axioms) imports.same
    ∙ ap (λ (ts : List Tree). parts p.head.name p.head.imports ts o.axioms) notes.same
    ∙ ap (parts p.head.name p.head.imports p.annotations) axioms.same

pub same_bytes : (o p : Ontology) → IsSameOntology o p → canonical_bytes o ≡ canonical_bytes p
same_bytes o p h = ap ontology_bytes ((same_ontology_is_equal_form o p).0 h)

pub only_same_bytes : (o p : Ontology) → IsOntology o → IsOntology p → HasBytes (canonical_ontology o) → HasBytes (canonical_ontology p) → canonical_bytes o ≡ canonical_bytes p → IsSameOntology o p
only_same_bytes o p h k b c e =
    (same_ontology_is_equal_form o p).1 (only_these (canonical_ontology o) (canonical_ontology p) ((canonical_is_ontology o).0 h) ((canonical_is_ontology p).0 k) b c e)

pub reads_once : (bytes : List ℕ) (o p : Ontology) → ReadsCanonical bytes o → ReadsCanonical bytes p → IsSameOntology o p
reads_once bytes o p h k =
    (same_ontology_is_equal_form o p).1 (only_these (canonical_ontology o) (canonical_ontology p) h.within.ontology k.within.ontology h.within.bytes k.within.bytes (h.written ∙ sym k.written))

pub reads_same : (bytes : List ℕ) (o p : Ontology) → ReadsCanonical bytes o → IsSameOntology o p → ReadsCanonical bytes p
reads_same bytes o p h k = record {
  written = sym (same_bytes o p k) ∙ h.written;
  within = subst IsWithinLimits ((same_ontology_is_equal_form o p).0 k) h.within;
}
