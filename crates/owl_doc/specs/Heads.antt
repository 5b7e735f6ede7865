-- The head of an ontology, as it is kept.
use Rattle.std.specs.Prelude.{ℕ, List, Option, None, Some, IsSome, refl}
use Rattle.std.specs.Coded.{Coded, code_by, coded×, coded_list, coded_option, coded_ℕ}
use Rattle.owl_doc.specs.declared.head.Head as held
use Rattle.owl_tree.specs.Ontologies.{Head, OntologyName}

-- how it is called, where it has an IRI
abbrev pub name_of : Option (List ℕ) → Option (List ℕ) → Option OntologyName
name_of None version = None
name_of (Some iri) version = Some (record { iri = iri; version = version })

-- the parts of a name
abbrev pub iri_in : Option OntologyName → Option (List ℕ)
iri_in None = None
iri_in (Some name) = Some name.iri

abbrev pub version_in : Option OntologyName → Option (List ℕ)
version_in None = None
version_in (Some name) = name.version

abbrev pub head_of : held.Head → Head
head_of h = record { name = name_of h.iri h.version; imports = h.imports.items }

-- a version stands only beside an IRI (Structural Specification, section 3.1)
abbrev pub StandsBeside : Option (List ℕ) → Option (List ℕ) → Type 0
StandsBeside version iri = IsSome version → IsSome iri

-- a name is stored as the pair of its fields
abbrev pub name_code : Coded OntologyName
name_code = code_by (List ℕ × Option (List ℕ)) (coded× (coded_list coded_ℕ) (coded_option (coded_list coded_ℕ))) (λ n. (n.iri, n.version)) (λ p. record { iri = p.0; version = p.1 }) (λ _. refl)

abbrev pub head_code : Coded Head
head_code = code_by (Option OntologyName × List (List ℕ)) (coded× (coded_option name_code) (coded_list (coded_list coded_ℕ))) (λ h. (h.name, h.imports)) (λ p. record { name = p.0; imports = p.1 }) (λ _. refl)
