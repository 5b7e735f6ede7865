use Rattle.std.proofs.Common.{◌≡◌, ◌++◌, ◌∙◌, List, false, refl, length, get_or, sym, ap, subst}
use Rattle.std.specs.Prelude.{◌↔◌, IsTrue, Some, slice_get}
use Rattle.std.proofs.lemmas.Option.{slice_get_read}
use Rattle.std.proofs.lemmas.Result.{on_ok_weaker}
use Rattle.breach_lists.specs.Adding.{AreAxiomsOf, breaches_of, sites_at}
use Rattle.breach_lists.proofs.AddingLaws.{adds_document}
use Rattle.breach_lists.proofs.PooledLaws.{axioms_here, pooled_here, pooled_within}
use Rattle.owl_arena.specs.Held.{trees_at}
use Rattle.owl_breaches.proofs.OneLaws.{never}
use Rattle.owl_breaches.specs.Sites.{Ontologies}
use Rattle.owl_doc.specs.declared.item.Breach.{Breach}
use Rattle.owl_doc.specs.Documents.{Document, ontology_of}
use Rattle.owl_doc.specs.Parts.{of_axiom, of_header}
use Rattle.owl_pool.specs.Pooling.{IsPooled}
use Rattle.owl_tree.specs.Ontologies.{Ontology}
use Rattle.owl_tree.specs.Trees.{Tree}
use Rattle.graph_walks.specs.Marks.{MarkEach}
use Rattle.std.specs.Prelude.{ℕ}
use Rattle.owl_profiles.specs.declared.rules.AxiomRule.{AxiomRule}
use Rattle.owl_profiles.specs.declared.rules.AxiomRule.TheVariants.{Sort, ChainRanges}
use Rattle.owl_profiles.specs.Facts.{AddsBreaches, closure_in}
use Rattle.owl_profiles.specs.Rules.{BreaksIt, axiom_name}
use Rattle.owl_profiles.proofs.listing.add_document.Goals as goal

-- no header breaks a rule on axioms
no_header : (c : Ontologies) (rule : AxiomRule) (o : Ontology) (ns : List Tree) → BreaksIt c rule o (of_header ns) → ⊥
no_header c (Sort name s) o ns h = h
no_header c ChainRanges o ns h = h

pub bounds-facts-place : goal.bounds-facts-place
bounds-facts-place c = pooled_within c.args.facts.now.arena.now.trees c.args.facts.now.closure.now.documents c.args.facts.now.pooled.now c.requires.facts.pooled c.args.place c.requires.place

pub axiom_marks-requires-clause-axioms : goal.axiom_marks-requires-clause-axioms
axiom_marks-requires-clause-axioms c =
    let facts = c.args.facts.now in
    subst (AreAxiomsOf facts.arena.now.trees facts.pooled.now) (sym c.axioms.ensures)
    (axioms_here facts.arena.now.trees facts.closure.now.documents facts.pooled.now c.requires.facts.pooled c.args.place c.requires.place c.index-docs-place.result c.index-facts-place.result)

pub returns : goal.returns
returns c =
    let facts = c.args.facts.now in
    let ts = facts.arena.now.trees in
    let docs = facts.closure.now.documents in
    let place = c.args.place in
    let d = c.index-docs-place.result in
    let o = ontology_of d in
    let n = get_or facts.pooled.now place c.index-facts-place.result in
    let read : d ≡ get_or docs place d = c.index-docs-place.is ∙ ap (λ (ds : List Document). get_or ds place d) c.docs.ensures in
    let pooled = subst (λ (e : Document). IsPooled ts (ontology_of e) n) (sym read)
    (pooled_here ts docs facts.pooled.now c.requires.facts.pooled place c.requires.place d c.index-facts-place.result) in
    let header : IsTrue false ↔ BreaksIt (closure_in facts) c.args.rule o (of_header o.annotations) = never (no_header (closure_in facts) c.args.rule o o.annotations) in
    let marks = c.in_ok-marks.marks.items in
    let each : MarkEach (λ (_ : ℕ) (t : Tree). BreaksIt (closure_in facts) c.args.rule o (of_axiom t)) o.axioms marks =
    subst (λ (us : List Tree). MarkEach (λ (_ : ℕ) (t : Tree). BreaksIt (closure_in facts) c.args.rule o (of_axiom t)) us marks)
    (ap (trees_at ts) c.axioms.ensures ∙ pooled.axioms.trees) (c.in_ok-marks.ensures o) in
    let old = c.args.found.now.items in
    let is : slice_get docs place ≡ Some d = slice_get_read docs (length docs) place d refl c.requires.place read in
    let own = adds_document axiom_name (BreaksIt (closure_in facts)) docs c.args.rule place d is false marks old c.axioms-2.ensures.document header each in
    on_ok_weaker c.add_parts.result
    (λ new. subst (λ (found : List Breach). AddsBreaches facts (sites_at (closure_in facts) c.args.rule place) old found)
    (sym (new ∙ (λ i. old ++ breaches_of (c.name.ensures i) place false (c.axioms-2.ensures.axioms i) (c.deref.ensures.value i)))) own)
    c.add_parts.ensures.ok
