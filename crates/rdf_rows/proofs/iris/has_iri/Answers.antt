use Rattle.std.proofs.Common.{ap, ◌∙◌}
use Rattle.std.specs.List.{list_all}
use Rattle.owl_characters.specs.Iri.{is_ascii}
use Rattle.rdf_meaning.proofs.WordLaws.{all_ascii}
use Rattle.rdf_rows.proofs.iris.has_iri.Goals as goal

pub is_spelled-requires : goal.is_spelled-requires
is_spelled-requires c = ap (list_all is_ascii) c.iri.ensures ∙ all_ascii c.args.word
