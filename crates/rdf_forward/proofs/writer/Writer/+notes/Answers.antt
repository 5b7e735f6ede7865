use Rattle.std.proofs.Common.{rules, ◌≡◌, ℕ, ◌-◌, ◌<◌, ◌≤◌, length, true, false, List, take, drop, arith, subst}
use Rattle.std.specs.List.{AllByRecursion}
use Rattle.std.proofs.lemmas.Result.{on_ok_weaker}
use Rattle.owl_arena.proofs.HeldLaws.{below_later}
use Rattle.rdf_mapping.specs.Notes.{no_notes}
use Rattle.rdf_counts.proofs.ArenaLaws.{above_all, above_first, above_kids, above_rest, first_and, none_left}
use Rattle.rdf_forward.specs.declared.ends.Holder.TheVariants as holder
use Rattle.rdf_forward.proofs.Annotations.{NotesOn, note_alone, note_reified, notes_at_first, notes_by_kids, notes_end, notes_next, some_told, written_as}
use Rattle.rdf_forward.proofs.writer.Writer.+notes.Goals as goal

pub write_notes-loop-left-preserved : goal.write_notes-loop-left-preserved
write_notes-loop-left-preserved t c =
    let rest = take (length c.loop-left.left.now - 1) (drop 1 c.loop-left.left.now) in
    let e = first_and c.loop-left.left.now c.id-item.result c.in-len1-up.len_at_least c.id-item.is in
    let on = subst (λ (l : List ℕ). NotesOn c.args.arena.now.trees c.args.holder.now c.args.self.now c.loop-left.self c.args.ids.now l) e c.loop-left.invariant.0 in
    let held = (subst (AllByRecursion (λ (k : ℕ). k < length c.args.arena.now.trees)) e c.loop-left.invariant.1).1 in
    let low = subst (λ (l : List ℕ). above_all l ≤ above_all c.args.ids.now) e c.loop-left.invariant.2 in
    (notes_next _ _ _ _ _ _ _ _ c.in_ok-write_note.ensures on, held, omega (arith, low, above_rest c.id-item.result rest))

pub write_notes-returns : goal.write_notes-returns
write_notes-returns t c =
    let none = none_left c.loop-left.left.now c.in_default.len_below in
    notes_end _ _ _ _ _ (subst (λ (l : List ℕ). NotesOn c.args.arena.now.trees c.args.holder.now c.args.self.now c.loop-left.self c.args.ids.now l) none c.loop-left.invariant.0)

pub write_notes-loop-left-init : goal.write_notes-loop-left-init
write_notes-loop-left-init t c = (notes_at_first _ _ _ _, c.requires, omega arith)

pub write_notes-write_note-requires : goal.write_notes-write_note-requires
write_notes-write_note-requires t c =
    let rest = take (length c.loop-left.left.now - 1) (drop 1 c.loop-left.left.now) in
    let e = first_and c.loop-left.left.now c.id-item.result c.in-len1-up.len_at_least c.id-item.is in
    let held = (subst (AllByRecursion (λ (k : ℕ). k < length c.args.arena.now.trees)) e c.loop-left.invariant.1).0 in
    let low = subst (λ (l : List ℕ). above_all l ≤ above_all c.args.ids.now) e c.loop-left.invariant.2 in
    (omega (arith, low, above_first c.id-item.result rest), held)

pub write_note-returns-then-not-has_notes : goal.write_note-returns-then-not-has_notes
write_note-returns-then-not-has_notes t c =
    let none : c.has_notes.result ≡ false = search rules in
    note_alone _ _ _ _ _ _ _ (c.in-Some.ensures.some no_notes) (some_told _ _ _ _ _ c.kids-inside.ensures.kids c.has_notes.ensures none) c.in_ok-link_annotation.ensures

pub write_note-write_notes-requires : goal.write_note-write_notes-requires
write_note-write_notes-requires t c =
    let low = above_kids c.kids-inside.result.now _ c.kids-inside.ensures.below in
    (omega (arith, low, c.in-Some.ensures.below), below_later c.kids-inside.result.now _ _ (omega (arith, c.in-Some.ensures.below, c.requires)) c.kids-inside.ensures.below)

pub write_note-returns : goal.write_note-returns
write_note-returns t c =
    let some : c.has_notes.result ≡ true = search rules in
    on_ok_weaker c.write_notes.result (λ others. note_reified _ _ _ _ _ _ _ _ _ _ (c.in-Some.ensures.some no_notes) (some_told _ _ _ _ _ c.kids-inside.ensures.kids c.has_notes.ensures some) c.in_ok-link_annotation.ensures c.in_ok-node.ensures.number c.in_ok-node.ensures.writes (written_as _ _ (holder.Node c.in_ok-node.node) _ _ (notes_by_kids _ _ _ c.kids-inside.ensures.kids) others)) c.write_notes.ensures
