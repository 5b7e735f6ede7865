use Rattle.rdf_meaning.proofs.NodeLaws.{one_word}
use Rattle.rdf_meaning.proofs.WordLaws.{same_iri, same_number}
use Rattle.rdf_meaning.proofs.laws.words_are_told_apart.Goals as goal

pub returns-clause-numbers : goal.returns-clause-numbers
returns-clause-numbers c = same_number

pub returns-clause-iris : goal.returns-clause-iris
returns-clause-iris c = same_iri

pub returns-clause-triple : goal.returns-clause-triple
returns-clause-triple c = one_word
