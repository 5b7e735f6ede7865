use Rattle.std.proofs.Common.{List, subst, sym}
use Rattle.std.proofs.lemmas.Result.{IfOk-weaker}
use Rattle.std.specs.List.{AllZip}
use Rattle.breach_lists.specs.Telling.{Tells}
use Rattle.owl_doc.specs.declared.item.Breach.{Breach}
use Rattle.owl_messages.specs.declared.answer.Answer.{Answer}
use Rattle.owl_messages.specs.Answers.{outcome_of}
use Rattle.owl_profiles.specs.Profiles.{name_of}
use Rattle.owl_answer.proofs.ToldActions.{checked, limited_by}
use Rattle.owl_answer.proofs.checking.check.Goals as goal

pub returns : goal.returns
returns c =
    let told = c.in_ok-found.ensures in
    let each = subst (λ (found : List Breach). AllZip (Tells name_of c.new-documents.result.documents) told.breaches found) (sym c.deref-2.ensures.value) told.told in
    IfOk-weaker c.verdict.result _ _ (λ (a : Answer) h documents closed all. checked c.args.profile documents c.args.closure c.args.said.items closed all c.new-documents.result c.new-documents.ensures.docs c.new-documents.ensures.kinds c.in_ok-found.found.items told (outcome_of a) (limited_by c.args.profile _ _ told.breaches c.deref.ensures.value (outcome_of a) (h told.breaches each))) c.verdict.ensures
