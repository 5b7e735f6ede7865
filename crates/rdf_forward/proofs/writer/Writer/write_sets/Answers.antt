use Rattle.std.proofs.Common.{ℕ, ◌<◌, length, List, subst}
use Rattle.std.specs.List.{AllByRecursion}
use Rattle.rdf_counts.proofs.ArenaLaws.{first_and, none_left}
use Rattle.rdf_forward.proofs.Axioms.{SetsOn, sets_end, sets_next}
use Rattle.rdf_forward.proofs.writer.Writer.write_sets.Goals as goal

pub loop-left-preserved : goal.loop-left-preserved
loop-left-preserved c =
    let e = first_and c.loop-left.left.now c.id-item.result c.in-len1-up.len_at_least c.id-item.is in
    let on = subst (λ (l : List ℕ). SetsOn c.args.arena.now.trees c.args.link.now c.args.self.now c.loop-left.self c.args.axioms.now l) e c.loop-left.invariant.0 in
    let held = (subst (AllByRecursion (λ (k : ℕ). k < length c.args.arena.now.trees)) e c.loop-left.invariant.1).1 in
    (sets_next _ _ _ _ _ _ _ _ _ c.notes_of_axiom-notes.ensures.notes c.in_ok-write_reified.ensures on, held)

pub returns : goal.returns
returns c =
    let none = none_left c.loop-left.left.now c.in_default.len_below in
    sets_end _ _ _ _ _ (subst (λ (l : List ℕ). SetsOn c.args.arena.now.trees c.args.link.now c.args.self.now c.loop-left.self c.args.axioms.now l) none c.loop-left.invariant.0)
