use Rattle.std.proofs.Common.{◌≡◌, ◌++◌, ◌∙◌, List, false, get_or, sym, ap, append_assoc, take}
use Rattle.owl_doc.specs.declared.item.Breach.{Breach}
use Rattle.owl_doc.specs.declared.item.Item.TheVariants.{Axiom}
use Rattle.breach_lists.specs.Adding.{breaches_if, marked_breaches}
use Rattle.breach_lists.proofs.AddingLaws.{axioms_more}
use Rattle.breach_lists.proofs.adding.add_axioms.Goals as goal

pub places-preserved : goal.places-preserved
places-preserved c =
    let ids = c.args.axioms.now in
    let marks = c.args.marks.now in
    let old = c.args.found.now.items in
    let place = c.places.place in
    let id = c.index-axioms-place.result in
    let rule = c.args.rule in
    let own = breaches_if (get_or marks place false) rule c.args.document (Axiom id) in
    let before = marked_breaches rule c.args.document (take place ids) marks in
    let grown : c.push_if.new.found.items ≡ c.places.found.items ++ own =
    c.in_ok-push_if.ensures.ok ∙ (λ i. c.places.found.items ++ breaches_if (c.has_mark.ensures i) rule c.args.document (Axiom id)) in
    grown
    ∙ (ap (λ (bs : List Breach). bs ++ own) c.places.invariant ∙ (append_assoc old before own
    ∙ ap (λ (bs : List Breach). old ++ bs) (sym (axioms_more rule c.args.document ids marks place id c.places-test.true c.index-axioms-place.is))))
