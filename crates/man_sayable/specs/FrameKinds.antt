-- As what a frame declares an IRI (Manchester Syntax, section 2.5).
use Rattle.std.specs.Prelude.{ℕ, List, [], ◌∷◌, Option, find}
use Rattle.owl_kind.specs.declared.kind.Kind.{Kind}
use Rattle.owl_kind.specs.declared.kind.Kind.TheVariants.{Class, Datatype, ObjectProperty, DataProperty, AnnotationProperty, Individual}
use Rattle.man_resolve.specs.Expressions.{Knows}

abbrev pub frame_kinds : List Kind
frame_kinds = Class ∷ Datatype ∷ ObjectProperty ∷ DataProperty ∷ AnnotationProperty ∷ Individual ∷ []

-- the first of them that the IRI has
abbrev pub frame_kind : Knows → List ℕ → Option Kind
frame_kind known iri = find (λ kind. known kind iri) frame_kinds
