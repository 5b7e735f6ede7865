use Rattle.std.proofs.Common.{ap, subst, sym, ◌∙◌}
use Rattle.rdf_meaning.specs.Statements.{noters}
use Rattle.rdf_annotations.specs.Noters.{AreNumbersOf, NoterTable, numbers_of}
use Rattle.rdf_annotations.proofs.Numbering.{shown_at}
use Rattle.rdf_annotations.proofs.noters.Noters.at.Goals as goal

pub returns-clause-numbers : goal.returns-clause-numbers
returns-clause-numbers c =
    c.numbers_at.ensures ∙ shown_at c.self.inside.by_place.entries c.args.place ∙ ap (λ (table : NoterTable). numbers_of table c.args.place) c.self.view_is

pub returns-clause-noters : goal.returns-clause-noters
returns-clause-noters c = λ g roles t h at. subst (AreNumbersOf roles (noters g t)) (sym (returns-clause-numbers c)) (h.each c.args.place t at)
