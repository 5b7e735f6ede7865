use Rattle.std.specs.Prelude.{[], ◌≡◌}
use Rattle.std.proofs.Common.{ap, sym, ◌∙◌}
use Rattle.std.proofs.lemmas.Bool.{eqb-true}
use Rattle.std.proofs.lemmas.List.{nil_from_length}
use Rattle.std.specs.List.{list_any}
use Rattle.rdf_meaning.specs.Nodes.{carries_some, of_subject}
use Rattle.rdf_thin.proofs.ThinnedLaws.{nothing_beside}
use Rattle.rdf_thin.proofs.redundant.is_said_beside.Goals as goal

pub returns-then-is_empty : goal.returns-then-is_empty
returns-then-is_empty c =
    let beside = of_subject c.args.graph.now c.args.triple.now.subject in
    let empty : c.words_of-words.result.now ≡ [] = nil_from_length c.words_of-words.result.now (eqb-true _ 0 (sym c.is_empty.ensures ∙ c.if-is_empty.true)) in
    sym (ap (λ words. list_any (carries_some words) beside) (sym c.words_of-words.ensures ∙ empty) ∙ nothing_beside beside)
