use Rattle.chain_ranges.proofs.BitLaws.{in_single}
use Rattle.chain_ranges.proofs.blocks.bit.Goals as goal

pub returns : goal.returns
returns c = λ other. in_single c.args.number other c.requires
