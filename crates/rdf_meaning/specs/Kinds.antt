-- Whether an IRI has a kind, as a test (Structural Specification, section 5.8).
use Rattle.std.specs.Prelude.{ℕ, Bool, true, false, not, ◌&&◌, ◌||◌, List}
use Rattle.std.specs.List.{list_any}
use Rattle.std.specs.Str.{bytes_eq}
use Rattle.rdf_terms.specs.Vocabulary.{is_reserved}
use Rattle.owl_kind.specs.declared.kind.Kind.{Kind}
use Rattle.owl_kind.specs.declared.kind.Kind.TheVariants.{Class, Datatype, ObjectProperty, DataProperty, AnnotationProperty, Individual}
use Rattle.owl_kind.specs.Kinds.{Entity, HasClash, is_built_in}

abbrev pub is_kind : Kind → Kind → Bool
is_kind Class Class = true
is_kind Datatype Datatype = true
is_kind ObjectProperty ObjectProperty = true
is_kind DataProperty DataProperty = true
is_kind AnnotationProperty AnnotationProperty = true
is_kind Individual Individual = true
is_kind _ _ = false

-- declared as this kind, or built in
unfoldable pub has_kind : List Entity → Kind → List ℕ → Bool
has_kind kinds kind iri = list_any (λ e. is_kind kind e.kind && bytes_eq e.iri iri) kinds || is_built_in kind iri

-- A reserved IRI may be declared as what it is built in as.
unfoldable pub may_be_declared : Kind → List ℕ → Bool
may_be_declared kind iri = not (is_reserved iri) || is_built_in kind iri

-- no declared IRI has two kinds that it may not have
abbrev pub HaveNoClash : List Entity → Type 0
HaveNoClash kinds = (iri : List ℕ) → HasClash kinds iri → ⊥
