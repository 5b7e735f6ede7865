use Rattle.std.proofs.Common.{ℕ, List, ap, ◌∙◌, subst, sym}
use Rattle.std.proofs.lemmas.Result.{on_ok_weaker}
use Rattle.owl_arena.specs.Held.{AreHeld, trees_at}
use Rattle.rdf_mapping.specs.Graphs.{Group, groups_of}
use Rattle.rdf_forward.specs.AxiomWalks.{WritesGroups}
use Rattle.rdf_forward.specs.BareOrder.{AreOrdered}
use Rattle.rdf_forward.proofs.Sorting.{sorted_groups, sorted_held, sorted_ordered}
use Rattle.rdf_forward.proofs.writer.Writer.write_all_axioms.Goals as goal

pub write_groups-requires-clause-held : goal.write_groups-requires-clause-held
write_groups-requires-clause-held c =
    subst (AreHeld c.args.arena.now.trees) (sym c.deref.ensures.value) (sorted_held _ _ _ c.requires c.in_ok-axioms.ensures)

pub write_groups-requires-clause-ordered : goal.write_groups-requires-clause-ordered
write_groups-requires-clause-ordered c =
    subst (λ (ids : List ℕ). AreOrdered (trees_at c.args.arena.now.trees ids)) (sym c.deref.ensures.value) (sorted_ordered _ _ _ c.requires c.in_ok-axioms.ensures)

pub returns : goal.returns
returns c =
    let trees = c.args.arena.now.trees in
    let same = ap (λ (ids : List ℕ). groups_of (trees_at trees ids)) c.deref.ensures.value ∙ sorted_groups trees _ _ c.requires c.in_ok-axioms.ensures in
    on_ok_weaker c.write_groups.result (λ groups. subst (λ (gs : List Group). WritesGroups c.args.self.now c.write_groups.new.self gs) same groups) c.write_groups.ensures
