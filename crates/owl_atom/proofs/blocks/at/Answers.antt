use Rattle.std.proofs.Common.{arith, ◌<◌, length, sym, ◌∙◌}
use Rattle.owl_atom.proofs.PrefixBlocks.{in_first}
use Rattle.owl_atom.proofs.blocks.at.Goals as goal

pub returns : goal.returns
returns c =
    let within : c.loop-place.place < length c.index-blocks-0.result.items = omega (arith, c.len.ensures, c.loop-place-test.false) in
    sym c.loop-place.invariant.1
    ∙ in_first c.loop-place.blocks.now c.loop-place.place c.index-blocks-0.result c.index-blocks-0-2.result c.index.result.now c.loop-place.invariant.0 c.index-blocks-0.is c.index-blocks-0-2.is within c.index.ensures
