-- The facets that IRIs name.
use lib.Utf8.{encode}
use Rattle.std.proofs.Common.{◌≡◌, ℕ, List, Some, refl}
use Rattle.std.proofs.lemmas.Slice.Eq.{bytes_eq-Decides}
use Rattle.owl_characters.specs.Order.{text_eq}
use Rattle.man_raw.specs.declared.form.Facet.{Facet}
use Rattle.man_raw.specs.declared.form.Facet.TheVariants.{AtMost, LessThan, AtLeast, MoreThan, Length, MinLength, MaxLength, Pattern, LangRange}
use Rattle.man_resolve.specs.Places.{facet_iri}
use Rattle.man_sayable.specs.Facets.{facet_named, facets}
use Rattle.man_sayable.proofs.Found.{found_passes}

pub named_facet : (iri : List ℕ) (f : Facet) → facet_named iri ≡ Some f → facet_iri f ≡ iri
named_facet iri f e = (bytes_eq-Decides (facet_iri f) iri).0 (found_passes (λ f. text_eq (facet_iri f) iri) facets f e)

pub each_named : (f : Facet) → facet_named (facet_iri f) ≡ Some f
unfolding encode facet_iri
each_named AtMost = refl
each_named LessThan = refl
each_named AtLeast = refl
each_named MoreThan = refl
each_named Length = refl
each_named MinLength = refl
each_named MaxLength = refl
each_named Pattern = refl
each_named LangRange = refl
