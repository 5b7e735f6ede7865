use Rattle.std.proofs.Common.{List, take, sym, subst}
use Rattle.dl_rules.specs.declared.rule.DlRule.{DlRule}
use Rattle.dl_rules.specs.Rules.{BreaksAt, dl_name}
use Rattle.owl_breaches.specs.Sites.{Site, sites_from}
use Rattle.owl_breaches.proofs.ThoseLaws.{adds_both, adds_none}
use Rattle.breach_lists.specs.Adding.{sites_at}
use Rattle.breach_lists.specs.Telling.{Tells}
use Rattle.breach_lists.proofs.AddingLaws.{ontologies_more}
use Rattle.owl_dl.specs.Facts.{AddsBreaches, closure_in}
use Rattle.owl_dl.proofs.listing.add_rule.Goals as goal

pub places-init : goal.places-init
places-init c = adds_none _ _ c.args.found.now.items

pub places-preserved : goal.places-preserved
places-preserved c =
    let facts = c.args.facts.now in
    let os = (closure_in facts).all in
    let old = c.args.found.now.items in
    let new = c.add_document.new.found.items in
    let place = c.places.place in
    let before = sites_from c.args.rule 0 (take place os) in
    let here = sites_at (closure_in facts) c.args.rule place in
    subst (λ (these : List (Site DlRule)). AddsBreaches facts these old new) (sym (ontologies_more c.args.rule place os))
    (adds_both (BreaksAt (closure_in facts)) (Tells dl_name facts.closure.now.documents) before here old c.places.found.items new c.places.invariant c.in_ok-add_document.ensures)
