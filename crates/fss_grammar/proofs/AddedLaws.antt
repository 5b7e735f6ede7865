-- What is added to a document stands behind what it had.
use Rattle.std.proofs.Common.{◌≡◌, ℕ, List, [], ◌∷◌, ◌++◌, Option, Some, None, refl, sym, ap, ◌∙◌, append_assoc, append-nil}
use Rattle.owl_tree.specs.Ontologies.{Ontology, OntologyName}
use Rattle.owl_tree.specs.Trees.{Tree}
use Rattle.fss_terms.specs.Functional.{PrefixDeclaration}
use Rattle.fss_grammar.specs.Making.{Document, beginning}
use Rattle.fss_grammar.specs.Meaning.{all_added, annotating, asserting, declaring, importing, naming_if}

abbrev document_of : List PrefixDeclaration → Option OntologyName → List (List ℕ) → List Tree → List Tree → Document
document_of ds name imports annotations axioms =
    record { declarations = ds; ontology = record { head = record { name = name; imports = imports }; annotations = annotations; axioms = axioms } }

declared_all : (ds es : List PrefixDeclaration) (o : Ontology) → all_added declaring ds (record { declarations = es; ontology = o }) ≡ record { declarations = es ++ ds; ontology = o }
declared_all [] es o = ap (λ l. record { declarations = l; ontology = o }) (sym (append-nil es))
declared_all (d ∷ ds) es o = declared_all ds (es ++ d ∷ []) o ∙ ap (λ l. record { declarations = l; ontology = o }) (append_assoc es (d ∷ []) ds)

imported_all : (is js : List (List ℕ)) (ds : List PrefixDeclaration) (name : Option OntologyName) (ans axs : List Tree) → all_added importing is (document_of ds name js ans axs) ≡ document_of ds name (js ++ is) ans axs
imported_all [] js ds name ans axs = ap (λ l. document_of ds name l ans axs) (sym (append-nil js))
imported_all (i ∷ is) js ds name ans axs = imported_all is (js ++ i ∷ []) ds name ans axs ∙ ap (λ l. document_of ds name l ans axs) (append_assoc js (i ∷ []) is)

annotated_all : (ts us : List Tree) (ds : List PrefixDeclaration) (name : Option OntologyName) (js : List (List ℕ)) (axs : List Tree) → all_added annotating ts (document_of ds name js us axs) ≡ document_of ds name js (us ++ ts) axs
annotated_all [] us ds name js axs = ap (λ l. document_of ds name js l axs) (sym (append-nil us))
annotated_all (t ∷ ts) us ds name js axs = annotated_all ts (us ++ t ∷ []) ds name js axs ∙ ap (λ l. document_of ds name js l axs) (append_assoc us (t ∷ []) ts)

asserted_all : (ts us : List Tree) (ds : List PrefixDeclaration) (name : Option OntologyName) (js : List (List ℕ)) (ans : List Tree) → all_added asserting ts (document_of ds name js ans us) ≡ document_of ds name js ans (us ++ ts)
asserted_all [] us ds name js ans = ap (λ l. document_of ds name js ans l) (sym (append-nil us))
asserted_all (t ∷ ts) us ds name js ans = asserted_all ts (us ++ t ∷ []) ds name js ans ∙ ap (λ l. document_of ds name js ans l) (append_assoc us (t ∷ []) ts)

named_if : (name : Option OntologyName) (ds : List PrefixDeclaration) → naming_if name (document_of ds None [] [] []) ≡ document_of ds name [] [] []
named_if None ds = refl
named_if (Some name) ds = refl

-- what comes of the beginning, where all is added in turn
pub all_of : (ds : List PrefixDeclaration) (name : Option OntologyName) (imports : List (List ℕ)) (annotations axioms : List Tree) → all_added asserting axioms (all_added annotating annotations (all_added importing imports (naming_if name (all_added declaring ds beginning.document)))) ≡ record { declarations = ds; ontology = record { head = record { name = name; imports = imports }; annotations = annotations; axioms = axioms } }
all_of ds name imports annotations axioms =
    ap (λ d. all_added asserting axioms (all_added annotating annotations (all_added importing imports (naming_if name d)))) (declared_all ds [] beginning.document.ontology)
    ∙ ap (λ d. all_added asserting axioms (all_added annotating annotations (all_added importing imports d))) (named_if name ds)
    ∙ ap (λ d. all_added asserting axioms (all_added annotating annotations d)) (imported_all imports [] ds name [] [])
    ∙ ap (all_added asserting axioms) (annotated_all annotations [] ds name imports [])
    ∙ asserted_all axioms [] ds name imports annotations
