-- The facets of datatypes that have a word or sign (Manchester Syntax, section 2.3).
use Rattle.std.specs.Prelude.{ℕ, List, [], ◌∷◌, Option, find}
use Rattle.owl_characters.specs.Order.{text_eq}
use Rattle.man_raw.specs.declared.form.Facet.{Facet}
use Rattle.man_raw.specs.declared.form.Facet.TheVariants.{AtMost, LessThan, AtLeast, MoreThan, Length, MinLength, MaxLength, Pattern, LangRange}
use Rattle.man_resolve.specs.Places.{facet_iri}

abbrev pub facets : List Facet
facets = AtMost ∷ LessThan ∷ AtLeast ∷ MoreThan ∷ Length ∷ MinLength ∷ MaxLength ∷ Pattern ∷ LangRange ∷ []

-- the one with this IRI
abbrev pub facet_named : List ℕ → Option Facet
facet_named iri = find (λ f. text_eq (facet_iri f) iri) facets
