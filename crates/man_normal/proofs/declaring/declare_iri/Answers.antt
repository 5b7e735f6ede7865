use Rattle.std.proofs.Common.{sym, ◌∙◌}
use Rattle.std.proofs.lemmas.Result.{on_ok_weaker}
use Rattle.man_resolve.specs.Expressions.{knows}
use Rattle.man_sayable.specs.FrameKinds.{frame_kind}
use Rattle.man_normal.proofs.DeclaringLaws.{iri_made, no_iri_made}
use Rattle.man_normal.proofs.declaring.declare_iri.Goals as goal

pub returns-in_ok-name-in-Some-clause-made : goal.returns-in_ok-name-in-Some-clause-made
returns-in_ok-name-in-Some-clause-made c =
    on_ok_weaker c.declare.result
    (iri_made c.args.arena.now.trees c.name.new.arena.trees c.declare.new.arena.trees c.args.made.now.items c.declare.new.made.items c.in_ok-name-in-Some.name (frame_kind (knows c.args.kinds.now) c.args.iri) c.in-Some.kind c.args.iri (sym c.frame_kind.ensures ∙ c.in-Some.is) c.requires c.in_ok-name-in-Some.ensures.made)
    c.declare.ensures.made

pub returns-in-None-clause-made : goal.returns-in-None-clause-made
returns-in-None-clause-made c = no_iri_made c.args.arena.now.trees c.args.made.now.items (frame_kind (knows c.args.kinds.now) c.args.iri) c.args.iri (sym c.frame_kind.ensures ∙ c.in-None.is) c.requires
