-- What is kept between tokens, by what it is.
use Rattle.fss_acts.specs.declared.kept.Kept.{Kept}
use Rattle.fss_acts.specs.declared.kept.Kept.TheVariants.{Iri, Prefix, Text}

abbrev pub HoldsText : Kept → Type 0
HoldsText (Text t form) = Unit {0}
HoldsText _ = ⊥

abbrev pub HoldsIri : Kept → Type 0
HoldsIri (Iri i) = Unit {0}
HoldsIri _ = ⊥

abbrev pub HoldsPrefix : Kept → Type 0
HoldsPrefix (Prefix name) = Unit {0}
HoldsPrefix _ = ⊥
