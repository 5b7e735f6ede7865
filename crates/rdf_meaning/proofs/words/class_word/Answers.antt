use Rattle.std.proofs.Common.{true}
use Rattle.rdf_meaning.proofs.WordLaws.{is_word_of}
use Rattle.rdf_meaning.proofs.words.class_word.Goals as goal

pub returns : goal.returns
returns c = is_word_of true c.args.iri.now c.text.result.now c.text.ensures.bytes c.word_in.result c.word_in.ensures
