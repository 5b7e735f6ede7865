use Rattle.std.proofs.Common.{List, ap, sym, ◌∙◌, ◌++◌, subst}
use Rattle.owl_doc.specs.declared.item.Breach.{Breach}
use Rattle.owl_answer.specs.Checking.{TellBreaches}
use Rattle.owl_answer.proofs.BreachLists.{dl_alone, dl_and_further, none_further}
use Rattle.owl_answer.proofs.checking.breaches.Goals as goal

pub returns-in_default : goal.returns-in_default
returns-in_default c =
    dl_alone c.args.profile c.args.closure.now c.in_ok-found.found.items c.in_ok-found.ensures
    (sym c.further.ensures ∙ none_further c.further.result c.in_default.not-Some)

pub returns : goal.returns
returns c =
    let found = c.in_ok-found.found.items in
    subst (λ (all : List Breach). TellBreaches c.args.profile c.args.closure.now all)
    (sym (c.in_ok-extend_from_slice.ensures.items ∙ ap (λ (more : List Breach). found ++ more) c.deref.ensures.value))
    (dl_and_further c.args.profile c.args.closure.now found c.in_ok-found.ensures c.in-Some.further c.in_ok-more.more.items (sym c.further.ensures ∙ c.in-Some.is) c.in_ok-more.ensures)
