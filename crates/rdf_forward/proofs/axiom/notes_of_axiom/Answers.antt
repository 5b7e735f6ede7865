use Rattle.std.proofs.Common.{arith}
use Rattle.owl_arena.proofs.HeldLaws.{below_later}
use Rattle.rdf_counts.proofs.ArenaLaws.{first_and}
use Rattle.rdf_forward.proofs.Axioms.{axiom_notes_first}
use Rattle.rdf_forward.proofs.Taking.{first_below}
use Rattle.rdf_forward.proofs.axiom.notes_of_axiom.Goals as goal

pub returns-in-len1-up-clause-notes : goal.returns-in-len1-up-clause-notes
returns-in-len1-up-clause-notes c =
    let e = first_and c.kids.result.now c.notes-item.result c.in-len1-up.len_at_least c.notes-item.is in
    axiom_notes_first _ _ _ c.kids.result.now _ _ e c.kids.ensures.kids c.kids-in-len1-up.ensures.kids

pub returns-in-len1-up-clause-held : goal.returns-in-len1-up-clause-held
returns-in-len1-up-clause-held c =
    let e = first_and c.kids.result.now c.notes-item.result c.in-len1-up.len_at_least c.notes-item.is in
    let low = first_below c.kids.result.now c.notes-item.result c.args.id _ e c.kids.ensures.below in
    below_later c.kids-in-len1-up.result.now _ _ (omega (arith, low, c.requires)) c.kids-in-len1-up.ensures.below
