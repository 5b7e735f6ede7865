-- The kinds of IRIs (Structural Specification, sections 5.1 to 5.6 and 5.8).
use Rattle.std.specs.Prelude.{◌≡◌, ◌⊎◌, ℕ, Bool, false, ◌||◌, nat_eq, IsTrue, List, [], ◌∷◌, ◌++◌, Contains, codes, map}
use Rattle.std.specs.declared.cmp.Ordering.TheVariants.{Less}
use Rattle.std.specs.List.{starts_with}
use Rattle.owl_characters.specs.Order.{text_cmp}
use Rattle.rdf_terms.specs.Datatypes.{has, is_in_map}
use Rattle.rdf_terms.specs.Vocabulary.{owl, rdf, rdfs, xsd}
use Rattle.owl_kind.specs.declared.kind.Kind.{Kind}
use Rattle.owl_kind.specs.declared.kind.Kind.TheVariants.{Class, Datatype, ObjectProperty, DataProperty, AnnotationProperty, Individual}

unfoldable pub annotation_properties : List (List ℕ)
annotation_properties =
    map rdfs (codes "label" ∷ codes "comment" ∷ codes "seeAlso" ∷ codes "isDefinedBy" ∷ [])
    ++ map owl (codes "deprecated" ∷ codes "versionInfo" ∷ codes "priorVersion" ∷ codes "backwardCompatibleWith" ∷ codes "incompatibleWith" ∷ [])

-- The IRI needs no declaration as this kind. So it is for every IRI of XML Schema, and for rdf:langString, as datatypes.
unfoldable pub is_built_in : Kind → List ℕ → Bool
is_built_in Class iri = has (map owl (codes "Thing" ∷ codes "Nothing" ∷ [])) iri
is_built_in Datatype iri = has (rdfs (codes "Literal") ∷ rdf (codes "langString") ∷ []) iri || is_in_map iri || starts_with nat_eq iri (xsd [])
is_built_in ObjectProperty iri = has (map owl (codes "topObjectProperty" ∷ codes "bottomObjectProperty" ∷ [])) iri
is_built_in DataProperty iri = has (map owl (codes "topDataProperty" ∷ codes "bottomDataProperty" ∷ [])) iri
is_built_in AnnotationProperty iri = has annotation_properties iri
is_built_in Individual iri = false

-- an entity: an IRI, as what it names (section 5)
pub record Entity : Type 0 where
  pub kind : Kind
  pub iri : List ℕ

abbrev pub IsDeclared : List Entity → Kind → List ℕ → Type 0
IsDeclared kinds kind iri = Contains kinds (record { kind = kind; iri = iri })

-- declared as this kind, or built in
abbrev pub HasKind : List Entity → Kind → List ℕ → Type 0
HasKind kinds kind iri = IsDeclared kinds kind iri ⊎ IsTrue (is_built_in kind iri)

abbrev pub HasBoth : List Entity → Kind → Kind → List ℕ → Type 0
HasBoth kinds a b iri = HasKind kinds a iri × HasKind kinds b iri

-- two kinds that no IRI may share: two kinds of properties, or class and datatype (section 5.8.1)
abbrev pub SharesKinds : List Entity → List ℕ → Type 0
SharesKinds kinds iri =
    HasBoth kinds Class Datatype iri
    ⊎ (HasBoth kinds ObjectProperty DataProperty iri
    ⊎ (HasBoth kinds ObjectProperty AnnotationProperty iri
    ⊎ HasBoth kinds DataProperty AnnotationProperty iri))

-- a declared IRI with two such kinds
pub record HasClash (kinds : List Entity) (iri : List ℕ) : Type 0 where
  pub kind : Kind
  pub declared : IsDeclared kinds kind iri
  pub clash : SharesKinds kinds iri

-- of all that have a clash it comes first, in order of bytes
pub record IsFirstClash (kinds : List Entity) (iri : List ℕ) : Type 0 where
  pub clash : HasClash kinds iri
  pub first : (other : List ℕ) → HasClash kinds other → text_cmp other iri ≡ Less → ⊥
