use Rattle.std.proofs.Common.{ℕ, ◌<◌, length, List, subst}
use Rattle.std.specs.List.{AllByRecursion}
use Rattle.rdf_mapping.specs.Drawing.{arcs_of, placed}
use Rattle.rdf_mapping.specs.Arenas.{kids_at}
use Rattle.rdf_counts.proofs.ArenaLaws.{first_and, none_left}
use Rattle.rdf_forward.proofs.Axioms.{StandingOn, node_noted, standing_end, standing_next}
use Rattle.rdf_forward.proofs.writer.Writer.write_standing.Goals as goal

pub loop-left-preserved : goal.loop-left-preserved
loop-left-preserved c =
    let e = first_and c.loop-left.left.now c.id-item.result c.in-len1-up.len_at_least c.id-item.is in
    let on = subst (λ (l : List ℕ). StandingOn c.args.below.now.arena.now.trees (arcs_of (placed c.args.parts.now (kids_at c.args.below.now.arena.now.trees c.args.kids.now))) c.args.self.now c.loop-left.self c.args.below.now.axioms.now l) e c.loop-left.invariant.0 in
    let held = (subst (AllByRecursion (λ (k : ℕ). k < length c.args.below.now.arena.now.trees)) e c.loop-left.invariant.1).1 in
    (standing_next _ _ _ _ _ _ _ _ _ c.notes_of_axiom-notes.ensures.notes (node_noted c.loop-left.self _ _ _ _ _ _ c.in_ok-node.ensures.number c.in_ok-node.ensures.one c.in_ok-write_arcs.ensures c.in_ok-write_notes.ensures) on, held)

pub returns : goal.returns
returns c =
    let none = none_left c.loop-left.left.now c.in_default.len_below in
    standing_end _ _ _ _ _ (subst (λ (l : List ℕ). StandingOn c.args.below.now.arena.now.trees (arcs_of (placed c.args.parts.now (kids_at c.args.below.now.arena.now.trees c.args.kids.now))) c.args.self.now c.loop-left.self c.args.below.now.axioms.now l) none c.loop-left.invariant.0)
