use Rattle.std.proofs.Common.{◌∙◌, sym}
use Rattle.dl_graphs.proofs.AssertionLaws.{link_between_them, named_object, named_subject}
use Rattle.dl_graphs.proofs.links.link_between.Goals as goal
use Rattle.dl_graphs.proofs.links.link_between.Goals.{else-is_anonymous-via-then-is_anonymous+else-is_anonymous-2, else-is_anonymous-via-else-is_anonymous}

pub returns-then-is_anonymous-2 : goal.returns-then-is_anonymous-2
returns-then-is_anonymous-2 c =
    link_between_them c.args.arena.now.trees (record { property = c.args.property; subject = c.args.subject; object = c.args.object }) c.requires.shared c.requires.held c.requires.property
    (sym c.is_anonymous.ensures ∙ c.if-is_anonymous.true)
    (sym c.is_anonymous-then-is_anonymous.ensures ∙ c.if-is_anonymous-2.true)

pub returns-else-is_anonymous : goal.returns-else-is_anonymous
returns-else-is_anonymous c =
    let ts = c.args.arena.now.trees in
    elim c.else-is_anonymous.branch [
      | else-is_anonymous-via-then-is_anonymous+else-is_anonymous-2 w ↦ named_object ts c.requires.shared c.args.property c.args.subject c.args.object c.requires.held.1.1.0 (sym w.is_anonymous-then-is_anonymous.ensures ∙ w.if-is_anonymous-2.false)
      | else-is_anonymous-via-else-is_anonymous w ↦ named_subject ts c.requires.shared c.args.property c.args.subject c.args.object c.requires.held.1.0 (sym c.is_anonymous.ensures ∙ w.if-is_anonymous.false)
    ]
