use Rattle.std.proofs.Common.{[], List, get_or, sym, subst, take, take_all}
use Rattle.dl_rules.specs.declared.rule.DlRule.{DlRule}
use Rattle.dl_rules.specs.declared.rule.DlRule.TheVariants.{Typing}
use Rattle.dl_rules.specs.Rules.{BreaksAt, dl_name, dl_rules}
use Rattle.owl_breaches.specs.Sites.{Site, sites, sites_from}
use Rattle.owl_breaches.proofs.ThoseLaws.{adds_both, adds_none}
use Rattle.breach_lists.specs.Telling.{Tells}
use Rattle.breach_lists.proofs.AddingLaws.{rules_more}
use Rattle.owl_dl.specs.Facts.{AddsBreaches, closure_in}
use Rattle.owl_dl.proofs.listing.list_breaches.Goals as goal

pub rules-init : goal.rules-init
rules-init c = rw c.new-found.ensures.items (adds_none _ _ [])

pub rules-preserved : goal.rules-preserved
unfolding dl_rules
rules-preserved c =
    let facts = c.args.facts.now in
    let os = (closure_in facts).all in
    let index = c.rules.rule-index in
    let new = c.add_rule.new.found.items in
    let before = sites (take index dl_rules) os in
    let here = sites_from (get_or dl_rules index Typing) 0 os in
    subst (λ (these : List (Site DlRule)). AddsBreaches facts these [] new) (sym (rules_more os dl_rules index Typing c.rules-test.true))
    (adds_both (BreaksAt (closure_in facts)) (Tells dl_name facts.closure.now.documents) before here [] c.rules.found.items new c.rules.invariant c.in_ok-add_rule.ensures)

pub returns : goal.returns
unfolding dl_rules
returns c =
    let facts = c.args.facts.now in
    subst (λ (rules : List DlRule). AddsBreaches facts (sites rules (closure_in facts).all) [] c.rules.found.items) (take_all c.rules.rule-index dl_rules c.rules-test.false) c.rules.invariant
