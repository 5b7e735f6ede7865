use Rattle.std.proofs.Common.{subst, sym}
use Rattle.owl_arena.specs.Held.{AreHeld}
use Rattle.rdf_normal.proofs.SettleTrees.{images_in}
use Rattle.rdf_normal.proofs.settling.settle.Goals as goal

pub needed-requires : goal.needed-requires
needed-requires c =
    subst (AreHeld c.args.arena.now.trees) (sym c.in_ok-images.ensures.images) (images_in c.args.arena.now.trees c.args.known.now c.args.ids.now c.requires.known c.requires.ids)
