use Rattle.std.proofs.Common.{◌≡◌, ◌∙◌, List, ℕ, Bool, ap, map, length, subst, sym}
use Rattle.dl_rules.specs.Definitions.{IsCyclic, definition_of}
use Rattle.graph_walks.specs.Marks.{MarkEach}
use Rattle.graph_walks.specs.Walks.{AreWithin, Walks}
use Rattle.owl_arena.specs.Held.{trees_at}
use Rattle.owl_breaches.specs.Those.{HoldsOfSome}
use Rattle.owl_tree.specs.Trees.{Tree}
use Rattle.dl_graphs.specs.Groups.{group_marks}
use Rattle.dl_graphs.specs.Uses.{uses_at}
use Rattle.dl_graphs.proofs.UseLaws.{marks_of_definitions, uses_within}
use Rattle.dl_graphs.proofs.orders.cyclic_definitions.Goals as goal

pub cycle_marks-requires : goal.cycle_marks-requires
cycle_marks-requires c =
    let ts = c.args.arena.now.trees in
    let axioms = trees_at ts c.args.axioms.now in
    let within = uses_within ts axioms c.in_ok-uses.uses.pairs.items c.in_ok-uses.ensures.added in
    subst (λ (n : ℕ). AreWithin n c.deref.result.now) (sym c.distinct-nodes.ensures.trees) (subst (λ (pairs : List (ℕ × ℕ)). AreWithin (length ts) pairs) (sym c.deref.ensures.value) within)

pub returns : goal.returns
returns c =
    let ts = c.args.arena.now.trees in
    let axs = trees_at ts c.args.axioms.now in
    let uses = c.in_ok-uses.uses in
    let marks = c.in_ok-marks.marks.items in
    let each : MarkEach (λ (place : ℕ) (pair : ℕ × ℕ). Walks uses.pairs.items pair.1 pair.0) uses.pairs.items marks =
    subst (λ (pairs : List (ℕ × ℕ)). MarkEach (λ (place : ℕ) (pair : ℕ × ℕ). Walks pairs pair.1 pair.0) pairs marks) c.deref.ensures.value c.in_ok-marks.ensures in
    let gathered : c.in_ok-group_marks.field-0.items ≡ group_marks (map (λ t. length (uses_at t)) axs) marks =
    c.in_ok-group_marks.ensures ∙ (ap (λ (bs : List Bool). group_marks c.deref-2.result.now bs) c.deref-3.ensures.value ∙ ap (λ (ns : List ℕ). group_marks ns marks) (c.deref-2.ensures.value ∙ c.in_ok-uses.ensures.counts)) in
    subst (λ (bs : List Bool). MarkEach (λ (place : ℕ) (t : Tree). HoldsOfSome (IsCyclic axs) (definition_of t)) axs bs) (sym gathered) (marks_of_definitions ts axs uses.pairs.items c.in_ok-uses.ensures.added marks each)
