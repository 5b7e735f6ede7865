-- The namespaces whose IRIs are reserved, and the IRIs in them (Structural Specification, section 2.4).
use Rattle.std.specs.Prelude.{ℕ, Bool, List, [], ◌∷◌, ◌++◌, codes, nat_eq}
use Rattle.std.specs.List.{list_any, starts_with}

abbrev pub rdf : List ℕ → List ℕ
rdf name = codes "http://www.w3.org/1999/02/22-rdf-syntax-ns#" ++ name

abbrev pub rdfs : List ℕ → List ℕ
rdfs name = codes "http://www.w3.org/2000/01/rdf-schema#" ++ name

abbrev pub xsd : List ℕ → List ℕ
xsd name = codes "http://www.w3.org/2001/XMLSchema#" ++ name

abbrev pub owl : List ℕ → List ℕ
owl name = codes "http://www.w3.org/2002/07/owl#" ++ name

abbrev pub namespaces : List (List ℕ)
namespaces = rdf [] ∷ rdfs [] ∷ xsd [] ∷ owl [] ∷ []

-- it begins with the IRI of a namespace
unfoldable pub is_reserved : List ℕ → Bool
is_reserved iri = list_any (λ namespace. starts_with nat_eq iri namespace) namespaces
