-- What is known of an import closure, whose trees stand in one arena.
use Rattle.std.specs.Prelude.{◌≡◌, List, map}
use Rattle.breach_lists.specs.Adding.{AddsSites}
use Rattle.breach_lists.specs.Marks.{MarkAxioms}
use Rattle.breach_lists.specs.Telling.{ontologies_of}
use Rattle.owl_breaches.specs.Sites.{Ontologies, Site, axiom_closure}
use Rattle.owl_doc.specs.declared.item.Breach.{Breach}
use Rattle.owl_doc.specs.Documents.{ontology_of}
use Rattle.owl_pool.specs.Pooling.{ArePooled}
use Rattle.profile_sorts.specs.Sets.{AreSorts}
use Rattle.range_restrictions.specs.Restrictions.{LacksRangeBy}
use Rattle.owl_profiles.specs.declared.facts.Facts.{Facts}
use Rattle.owl_profiles.specs.declared.rules.AxiomRule.{AxiomRule}
use Rattle.owl_profiles.specs.declared.rules.AxiomRule.TheVariants.{ChainRanges}
use Rattle.owl_profiles.specs.Rules.{BreaksIt, axiom_name}

abbrev pub closure_in : Facts → Ontologies
closure_in facts = ontologies_of facts.closure.now

-- what is known is so, where this rule asks for it
pub record AreFactsFor (rule : AxiomRule) (facts : Facts) : Type 0 where
  pub pooled : ArePooled facts.arena.now.trees (map ontology_of facts.closure.now.documents) facts.pooled.now
  pub sets : AreSorts facts.arena.now.trees facts.sets.now
  pub lacking : rule ≡ ChainRanges → MarkAxioms facts.arena.now.trees facts.pooled.now (LacksRangeBy (axiom_closure (closure_in facts))) facts.lacking.now

-- behind what was there stands what tells of those of these that are broken
abbrev pub AddsBreaches : Facts → List (Site AxiomRule) → List Breach → List Breach → Type 0
AddsBreaches facts these old new = AddsSites axiom_name (BreaksIt (closure_in facts)) facts.closure.now.documents these old new
