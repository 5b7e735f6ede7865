use Rattle.std.proofs.Common.{refl}
use Rattle.rdf_terms.specs.Vocabulary.{is_reserved}
use Rattle.rdf_terms.proofs.AsciiTexts.{fronts_are}
use Rattle.rdf_terms.proofs.datatypes.reserved.Goals as goal

pub returns : goal.returns
unfolding is_reserved
returns c = fronts_are c.begins_with_one_of.result _ c.text.result.now c.args.iri.now c.begins_with_one_of.ensures c.text.ensures.bytes c.text.ensures.scalars refl
