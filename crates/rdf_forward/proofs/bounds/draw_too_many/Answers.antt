use Rattle.std.proofs.Common.{◌≡◌, ◌<◌, None, ℕ, List, Option, rules, ap, sym, ◌∙◌, subst}
use Rattle.owl_arena.specs.Held.{AreHeld, trees_at}
use Rattle.rdf_graph.specs.Graphs.{most_triples}
use Rattle.rdf_mapping.specs.Graphs.{groups_of}
use Rattle.rdf_counts.specs.Counts.{Takes, groups_drawn}
use Rattle.rdf_forward.specs.BareOrder.{AreOrdered}
use Rattle.rdf_forward.proofs.Sorting.{sorted_groups, sorted_held, sorted_ordered}
use Rattle.rdf_forward.proofs.bounds.draw_too_many.Goals as goal

pub count_groups-requires-clause-held : goal.count_groups-requires-clause-held
count_groups-requires-clause-held c =
    subst (AreHeld c.args.arena.now.trees) (sym c.deref.ensures.value) (sorted_held _ _ _ c.requires c.in_ok-axioms.ensures)

pub count_groups-requires-clause-ordered : goal.count_groups-requires-clause-ordered
count_groups-requires-clause-ordered c =
    subst (λ (ids : List ℕ). AreOrdered (trees_at c.args.arena.now.trees ids)) (sym c.deref.ensures.value) (sorted_ordered _ _ _ c.requires c.in_ok-axioms.ensures)

pub returns : goal.returns
returns c =
    let trees = c.args.arena.now.trees in
    let drawn = groups_drawn (groups_of (trees_at trees c.deref.result.now)) in
    let same = ap (λ (ids : List ℕ). groups_drawn (groups_of (trees_at trees ids))) c.deref.ensures.value ∙ ap groups_drawn (sorted_groups trees _ _ c.requires c.in_ok-axioms.ensures) in
    λ many.
    let none : c.count_groups.result ≡ None = search (rules, many) in
    subst (λ (n : ℕ). most_triples < n) same (subst (λ (o : Option ℕ). Takes most_triples o drawn) none c.count_groups.ensures)
