use Rattle.std.proofs.Common.{[], List, sym, subst, take, take_all}
use Rattle.breach_lists.specs.Telling.{Tells}
use Rattle.breach_lists.proofs.AddingLaws.{rules_more}
use Rattle.owl_breaches.specs.Sites.{Site, sites}
use Rattle.owl_breaches.proofs.ThoseLaws.{adds_both, adds_none}
use Rattle.owl_profiles.specs.declared.rules.AxiomRule.{AxiomRule}
use Rattle.owl_profiles.specs.Facts.{AddsBreaches, closure_in}
use Rattle.owl_profiles.specs.Rules.{BreaksIt, axiom_name}
use Rattle.owl_profiles.proofs.listing.list_breaches.Goals as goal

pub rules-init : goal.rules-init
rules-init c = rw c.new-found.ensures.items (adds_none _ _ [])

pub rules-preserved : goal.rules-preserved
rules-preserved c =
    let facts = c.args.facts.now in
    let os = (closure_in facts).all in
    let rules = c.args.rules.now in
    let index = c.rules.rule-index in
    let new = c.add_rule.new.found.items in
    subst (λ (these : List (Site AxiomRule)). AddsBreaches facts these [] new) (sym (rules_more os rules index _ c.rules-test.true))
    (adds_both (λ (s : Site AxiomRule). BreaksIt (closure_in facts) s.rule s.ontology s.part) (Tells axiom_name facts.closure.now.documents)
    (sites (take index rules) os) _ [] c.rules.found.items new c.rules.invariant c.in_ok-add_rule.ensures)

pub returns : goal.returns
returns c =
    let facts = c.args.facts.now in
    subst (λ (rules : List AxiomRule). AddsBreaches facts (sites rules (closure_in facts).all) [] c.rules.found.items) (take_all c.rules.rule-index c.args.rules.now c.rules-test.false) c.rules.invariant
