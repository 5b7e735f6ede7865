use Rattle.std.proofs.Common.{◌∙◌, ap}
use Rattle.owl_arena.specs.Held.{Held}
use Rattle.owl_doc.specs.Entities.{entities_at}
use Rattle.owl_declare.proofs.NeedLaws.{are_needed, only_equal_needs_tie}
use Rattle.owl_declare.proofs.finding.needed.Goals as goal

pub arrange-requires : goal.arrange-requires
arrange-requires c = only_equal_needs_tie

pub returns : goal.returns
returns c =
    let d = c.args.doc.now in
    are_needed c.args.kinds.now c.new-found.result c.find_all.new.found c.find_all-2.new.found _ _ _ c.into_needs-needs.result.items c.arrange.new.items.items
    c.new-found.ensures c.in_ok-find_all.ensures c.in_ok-find_all-2.ensures
    (ap (λ (a : Held). entities_at a.trees c.notes.result.now) c.arena.ensures ∙ ap (entities_at d.arena.trees) c.notes.ensures.notes)
    (ap (λ (a : Held). entities_at a.trees c.axioms.result.now) c.arena-2.ensures ∙ ap (entities_at d.arena.trees) c.axioms.ensures.axioms)
    c.into_needs-needs.ensures c.arrange.ensures
