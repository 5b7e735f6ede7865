use Rattle.std.proofs.Common.{◌≤◌, List, length, take, take_all, ap, sym, subst, arith}
use Rattle.std.proofs.lemmas.List.{length-map}
use Rattle.owl_doc.specs.Documents.{ontology_of}
use Rattle.owl_tree.specs.Ontologies.{Ontology}
use Rattle.breach_lists.specs.Adding.{sites_at}
use Rattle.breach_lists.specs.Telling.{Tells}
use Rattle.breach_lists.proofs.AddingLaws.{ontologies_more}
use Rattle.owl_breaches.specs.Sites.{Site, sites_from}
use Rattle.owl_breaches.proofs.ThoseLaws.{adds_both, adds_none}
use Rattle.owl_profiles.specs.declared.rules.AxiomRule.{AxiomRule}
use Rattle.owl_profiles.specs.Facts.{AddsBreaches, closure_in}
use Rattle.owl_profiles.specs.Rules.{BreaksIt, axiom_name}
use Rattle.owl_profiles.proofs.listing.add_rule.Goals as goal

pub places-init : goal.places-init
places-init c = adds_none _ _ c.args.found.now.items

pub places-preserved : goal.places-preserved
places-preserved c =
    let facts = c.args.facts.now in
    let os = (closure_in facts).all in
    let old = c.args.found.now.items in
    let new = c.add_document.new.found.items in
    let place = c.places.place in
    let before = sites_from c.args.rule 0 (take place os) in
    let here = sites_at (closure_in facts) c.args.rule place in
    subst (λ (these : List (Site AxiomRule)). AddsBreaches facts these old new) (sym (ontologies_more c.args.rule place os))
    (adds_both (λ (s : Site AxiomRule). BreaksIt (closure_in facts) s.rule s.ontology s.part) (Tells axiom_name facts.closure.now.documents)
    before here old c.places.found.items new c.places.invariant c.in_ok-add_document.ensures)

pub returns : goal.returns
returns c =
    let facts = c.args.facts.now in
    let docs = facts.closure.now.documents in
    let os = (closure_in facts).all in
    let past : length os ≤ c.places.place = omega (arith, c.places-test.false, length-map docs ontology_of, ap length c.docs-place-end.ensures) in
    subst (λ (xs : List Ontology). AddsBreaches facts (sites_from c.args.rule 0 xs) c.args.found.now.items c.places.found.items) (take_all c.places.place os past) c.places.invariant
