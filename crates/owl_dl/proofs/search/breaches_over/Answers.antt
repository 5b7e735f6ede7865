use Rattle.std.proofs.Common.{subst, sym, List}
use Rattle.dl_local.specs.Faults.{AreLocalFaults, IsKnown}
use Rattle.dl_local.specs.declared.faults.LocalFaults.{LocalFaults}
use Rattle.dl_rules.specs.Definitions.{IsCyclic, definition_of}
use Rattle.dl_rules.specs.Hierarchy.{BreaksOrder}
use Rattle.dl_rules.specs.Local.{HasMisusedDatatype}
use Rattle.dl_rules.specs.Properties.{IsSimple, chain_of, property_in}
use Rattle.owl_breaches.specs.Those.{HoldsOfSome}
use Rattle.owl_tree.specs.Trees.{Tree}
use Rattle.breach_lists.specs.Telling.{ontologies_of}
use Rattle.breach_lists.proofs.ClosureLaws.{below_count, held_so, marks_so, numbers_so}
use Rattle.owl_dl.proofs.search.breaches_over.Goals as goal

pub misused_datatypes-requires : goal.misused_datatypes-requires
misused_datatypes-requires c = record { axioms = held_so c.args.closure.now c.args.arena.now.trees c.args.pooled.now c.requires c.in_ok-axioms.axioms.items c.in_ok-axioms.ensures c.deref.result.now c.deref.ensures.value }

pub composite_properties-requires : goal.composite_properties-requires
composite_properties-requires c = record { axioms = held_so c.args.closure.now c.args.arena.now.trees c.args.pooled.now c.requires c.in_ok-axioms.axioms.items c.in_ok-axioms.ensures c.deref-2.result.now c.deref-2.ensures.value }

pub cyclic_definitions-requires : goal.cyclic_definitions-requires
cyclic_definitions-requires c = record { axioms = held_so c.args.closure.now c.args.arena.now.trees c.args.pooled.now c.requires c.in_ok-axioms.axioms.items c.in_ok-axioms.ensures c.deref-5.result.now c.deref-5.ensures.value }

pub broken_chains-requires : goal.broken_chains-requires
broken_chains-requires c = record { axioms = held_so c.args.closure.now c.args.arena.now.trees c.args.pooled.now c.requires c.in_ok-axioms.axioms.items c.in_ok-axioms.ensures c.deref-6.result.now c.deref-6.ensures.value }

pub marks_by_number-requires : goal.marks_by_number-requires
marks_by_number-requires c = below_count c.args.closure.now c.args.arena.now.trees c.args.pooled.now c.requires c.in_ok-axioms.axioms.items c.in_ok-axioms.ensures c.deref-7.result.now c.distinct.result c.deref-7.ensures.value c.distinct.ensures.trees

pub marks_by_number-requires-2 : goal.marks_by_number-requires-2
marks_by_number-requires-2 c = below_count c.args.closure.now c.args.arena.now.trees c.args.pooled.now c.requires c.in_ok-axioms.axioms.items c.in_ok-axioms.ensures c.deref-9.result.now c.distinct-2.result c.deref-9.ensures.value c.distinct-2.ensures.trees

pub list_breaches-requires : goal.list_breaches-requires
list_breaches-requires c =
    let closure = c.args.closure.now in
    let ts = c.args.arena.now.trees in
    let items = c.in_ok-axioms.axioms.items in
    let known : IsKnown (ontologies_of closure) ts c.kinds.result.now c.deref-3.result.now c.deref-4.result.now = record {
      kinds_are = sym c.kinds.ensures;
      misused_are = numbers_so closure ts c.args.pooled.now c.requires items c.in_ok-axioms.ensures HasMisusedDatatype c.deref.result.now c.in_ok-misused.misused.items c.deref-3.result.now c.deref.ensures.value c.deref-3.ensures.value c.in_ok-misused.ensures;
      composite_are = numbers_so closure ts c.args.pooled.now c.requires items c.in_ok-axioms.ensures (λ (axioms : List Tree) (t : Tree). HoldsOfSome (λ p. IsSimple axioms p → ⊥) (property_in t)) c.deref-2.result.now c.in_ok-composite.composite.items c.deref-4.result.now c.deref-2.ensures.value c.deref-4.ensures.value c.in_ok-composite.ensures;
    } in
    record {
      pooled = c.requires;
      local = subst (λ (found : List LocalFaults). AreLocalFaults (ontologies_of closure) ts found) (sym c.deref-11.ensures.value) (c.in_ok-local.ensures (ontologies_of closure) known);
      cyclic = marks_so closure ts c.args.pooled.now c.requires items c.in_ok-axioms.ensures (λ (axioms : List Tree) (t : Tree). HoldsOfSome (IsCyclic axioms) (definition_of t))
          c.deref-5.result.now c.deref-7.result.now c.in_ok-cyclic.cyclic.items c.deref-8.result.now c.in_ok-cyclic-2.cyclic.items c.deref-12.result.now
          c.deref-5.ensures.value c.deref-7.ensures.value c.deref-8.ensures.value c.deref-12.ensures.value c.in_ok-cyclic.ensures c.in_ok-cyclic-2.ensures;
      broken = marks_so closure ts c.args.pooled.now c.requires items c.in_ok-axioms.ensures (λ (axioms : List Tree) (t : Tree). HoldsOfSome (BreaksOrder axioms) (chain_of t))
          c.deref-6.result.now c.deref-9.result.now c.in_ok-broken.broken.items c.deref-10.result.now c.in_ok-broken-2.broken.items c.deref-13.result.now
          c.deref-6.ensures.value c.deref-9.ensures.value c.deref-10.ensures.value c.deref-13.ensures.value c.in_ok-broken.ensures c.in_ok-broken-2.ensures;
    }
