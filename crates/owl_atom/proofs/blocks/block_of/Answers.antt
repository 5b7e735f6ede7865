use Rattle.std.proofs.Common.{rules, arith}
use Rattle.std.specs.Str.{chars}
use Rattle.std.proofs.lemmas.List.Sorted.{IsPartitionPoint-from_clause}
use Rattle.owl_atom.specs.Blocks.{begins_by}
use Rattle.owl_atom.proofs.PrefixBlocks.{last_begun, parted}
use Rattle.owl_atom.proofs.blocks.block_of.Goals as goal

pub returns : goal.returns
returns c =
    let blocks = c.args.blocks.now in
    let name = chars c.args.name.now in
    let begun = c.partition_point-begun.result in
    let bound = c.partition_point-begun.ensures.bound in
    let last = c.saturating_sub.ensures in
    let point =
    IsPartitionPoint-from_clause (λ block. begins_by name block.items) blocks begun c.partition_point-begun.ensures.partitioned
    (parted blocks name c.requires.filled c.requires.ascending) (λ a r q k. search rules) in
    last_begun blocks name c.saturating_sub.result c.requires.filled c.requires.ascending (λ lt. omega arith)
    (λ k d lt. point.0 _ d (omega arith) (omega arith)) (λ k d le lt. point.1 _ d (omega arith) (omega arith))
