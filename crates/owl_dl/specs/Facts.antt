-- What is known of an import closure, whose trees stand in one arena.
use Rattle.std.specs.Prelude.{List, map}
use Rattle.dl_rules.specs.Definitions.{IsCyclic, definition_of}
use Rattle.dl_rules.specs.Hierarchy.{BreaksOrder}
use Rattle.dl_rules.specs.Properties.{chain_of}
use Rattle.dl_rules.specs.declared.rule.DlRule.{DlRule}
use Rattle.dl_rules.specs.Rules.{Breaks, dl_name}
use Rattle.owl_breaches.specs.Sites.{Ontologies, Site, axiom_closure}
use Rattle.owl_breaches.specs.Those.{HoldsOfSome}
use Rattle.owl_doc.specs.declared.item.Breach.{Breach}
use Rattle.owl_doc.specs.Documents.{ontology_of}
use Rattle.owl_pool.specs.Pooling.{ArePooled}
use Rattle.breach_lists.specs.Adding.{AddsSites}
use Rattle.breach_lists.specs.Marks.{MarkAxioms}
use Rattle.breach_lists.specs.Telling.{ontologies_of}
use Rattle.owl_dl.specs.declared.facts.Facts.{Facts}
use Rattle.dl_local.specs.Faults.{AreLocalFaults}

abbrev pub closure_in : Facts → Ontologies
closure_in facts = ontologies_of facts.closure.now

-- what is known is so
pub record AreFacts (facts : Facts) : Type 0 where
  pub pooled : ArePooled facts.arena.now.trees (map ontology_of facts.closure.now.documents) facts.pooled.now
  pub local : AreLocalFaults (closure_in facts) facts.arena.now.trees facts.local.now
  pub cyclic : MarkAxioms facts.arena.now.trees facts.pooled.now (λ t. HoldsOfSome (IsCyclic (axiom_closure (closure_in facts))) (definition_of t)) facts.cyclic.now
  pub broken : MarkAxioms facts.arena.now.trees facts.pooled.now (λ t. HoldsOfSome (BreaksOrder (axiom_closure (closure_in facts))) (chain_of t)) facts.broken.now

-- behind what was there stands what tells of those of these that are broken
abbrev pub AddsBreaches : Facts → List (Site DlRule) → List Breach → List Breach → Type 0
AddsBreaches facts these old new = AddsSites dl_name (Breaks (closure_in facts)) facts.closure.now.documents these old new
