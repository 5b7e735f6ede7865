use Rattle.man_resolve.specs.declared.place.Place.TheVariants as place
use Rattle.man_text.proofs.ExpressionLaws.{of_class, of_range}
use Rattle.man_text.proofs.WordLaws.{words_mean, words_once}
use Rattle.man_text.proofs.laws.words_mean_their_expressions.Goals as goal

pub returns-clause-classes : goal.returns-clause-classes
returns-clause-classes c = λ ks t apart h. words_mean ks apart place.Class t of_class h

pub returns-clause-ranges : goal.returns-clause-ranges
returns-clause-ranges c = λ ks t apart h. words_mean ks apart place.Range t of_range h

pub returns-clause-undecided_once : goal.returns-clause-undecided_once
returns-clause-undecided_once c = λ ks s t u apart is h k e. words_once ks apart s t u is h k e
