use Rattle.std.proofs.Common.{◌+◌, subst}
use Rattle.man_resolve.specs.declared.place.Place.TheVariants as place
use Rattle.man_resolve.specs.Building.{AddsTree, leaves}
use Rattle.man_resolve.specs.Expressions.{behind, knows, meant, node_of}
use Rattle.man_resolve.specs.Items.{axiom_of, stated}
use Rattle.man_resolve.proofs.BuildingLaws.{node_added}
use Rattle.man_resolve.proofs.PartLaws.{headed}
use Rattle.man_resolve.proofs.items.mean_axiom.Goals as goal

pub returns-clause-added : goal.returns-clause-added
unfolding axiom_of
returns-clause-added c =
    let ks = knows c.args.kinds.now in
    let notes = meant ks c.args.part.now.notes place.Notes in
    subst (λ s. AddsTree c.args.steps.now.items c.add.new.steps.items (node_of (behind notes (stated ks c.args.heading s (leaves c.args.subject) c.args.part.now.body)))) c.sentence_of-sentence.ensures
    (node_added c.args.steps.now.items c.mean_sentence.new.steps.items c.add.new.steps.items c.in_ok-tag.tag (c.in_ok-tag.count + 1) (behind notes (stated ks c.args.heading c.sentence_of-sentence.result (leaves c.args.subject) c.args.part.now.body))
    (headed c.args.steps.now.items c.mean.new.steps.items c.mean_sentence.new.steps.items c.in_ok-tag.tag c.in_ok-tag.count notes (stated ks c.args.heading c.sentence_of-sentence.result (leaves c.args.subject) c.args.part.now.body) c.in_ok-mean.ensures.added c.in_ok-tag.ensures.added)
    c.in_ok-add.ensures)
