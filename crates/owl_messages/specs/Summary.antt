-- What is shown of an ontology.
use Rattle.std.specs.Prelude.{ℕ, Option, None, Some, List, ◌++◌, length, codes}
use Rattle.std.specs.Fmt.{decimal}
use Rattle.std.specs.Str.{encode_utf8_all}
use Rattle.owl_tree.specs.Ontologies.{Ontology, OntologyName, canonical_ontology, ontology_weight}
use Rattle.owl_doc.specs.Counts.{axiom_count, distinct_count}
use Rattle.owl_doc.specs.Heads.{iri_in, version_in}

-- in full, if it is there
abbrev pub iri_line : List ℕ → Option (List ℕ) → List ℕ
iri_line label None = label ++ codes " none\n"
iri_line label (Some iri) = label ++ (codes " <" ++ (encode_utf8_all iri ++ codes ">\n"))

abbrev pub count_line : List ℕ → ℕ → List ℕ
count_line label count = label ++ (codes " " ++ (decimal count ++ codes "\n"))

-- how the ontology is called
abbrev pub name_lines : Option OntologyName → List ℕ
name_lines name = iri_line (codes "ontology") (iri_in name) ++ iri_line (codes "version") (version_in name)

-- how many imports and annotations there are, each counted once
abbrev pub head_lines : Ontology → List ℕ
head_lines o =
    count_line (codes "imports") (length (canonical_ontology o).head.imports) ++ count_line (codes "annotations") (length (canonical_ontology o).annotations)

-- how many axioms, how many distinct trees they and the annotations are made of, and how large all of them are
abbrev pub size_lines : Ontology → List ℕ
size_lines o =
    count_line (codes "axioms") (axiom_count o) ++ (count_line (codes "distinct") (distinct_count o) ++ count_line (codes "weight") (ontology_weight o))

-- seven lines
abbrev pub summary_text : Ontology → List ℕ
summary_text o = name_lines o.head.name ++ (head_lines o ++ size_lines o)
