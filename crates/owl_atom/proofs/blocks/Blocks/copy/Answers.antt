use Rattle.std.proofs.Common.{sym, ap, ◌∙◌, subst}
use Rattle.std.proofs.lemmas.List.{take_all}
use Rattle.owl_atom.specs.Blocks.{flat}
use Rattle.owl_atom.specs.Prefixes.{AreAscending}
use Rattle.owl_atom.proofs.blocks.Blocks.copy.Goals as goal

pub of-requires : goal.of-requires
of-requires c =
    let whole = c.loop-block.invariant ∙ ap flat (take_all c.loop-block.block-index c.deref-block-items.result.now c.loop-block-test.false) in
    subst AreAscending (sym (whole ∙ ap flat c.deref-block-items.ensures.value)) c.self.invariant.ascending
