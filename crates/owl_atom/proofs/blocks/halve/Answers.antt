use Rattle.std.proofs.Common.{arith, length, ◌≡◌, ◌<◌, ◌+◌, suc, refl, ap, ◌∙◌}
use Rattle.std.proofs.lemmas.Option.{slice_get_read}
use Rattle.owl_atom.specs.Blocks.{flat}
use Rattle.owl_atom.proofs.PrefixBlocks.{halved}
use Rattle.owl_atom.proofs.blocks.halve.Goals as goal

pub returns-clause-same : goal.returns-clause-same
returns-clause-same c =
    let within : c.args.block < length c.reserve.new.self.items = omega (arith, c.if-len-block.false, c.len.ensures, ap length c.reserve.ensures.items) in
    let next : c.args.block + 1 ≡ suc c.args.block = omega arith in
    let parts = halved c.reserve.new.self.items c.args.block (c.args.block + 1) c.index_mut.result.now c.back_of.new.block c.in_ok-back.back next
    (slice_get_read c.reserve.new.self.items _ c.args.block c.index_mut.result.now refl within c.index_mut.ensures.value) c.in_ok-back.ensures.parts in
    let room : c.reserve.new.self.len < c.reserve.new.self.cap = omega (arith, c.in_ok-reserve.ensures.ok) in
    rw (c.insert.ensures.items, c.insert.ensures.succeeds room) (parts ∙ ap flat c.reserve.ensures.items)
