use Rattle.std.proofs.Common.{false}
use Rattle.rdf_meaning.proofs.WordLaws.{is_word_of}
use Rattle.rdf_meaning.proofs.words.predicate_word.Goals as goal

pub returns : goal.returns
returns c = is_word_of false c.args.iri.now c.text.result.now c.text.ensures.bytes c.word_in.result c.word_in.ensures
