use Rattle.std.proofs.Common.{refl}
use Rattle.std.specs.Prelude.{codes}
use Rattle.owl_characters.specs.Iri.{is_iri_character}
use Rattle.rdf_terms.proofs.WordLaws.{word_passes}
use Rattle.value_tests.proofs.prefixes.expanding.Goals as goal

pub expand-requires : goal.expand-requires
expand-requires c = word_passes is_iri_character _ refl refl
