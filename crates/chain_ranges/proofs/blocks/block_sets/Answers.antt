use Rattle.std.proofs.Common.{◌≡◌, ◌∙◌, List, ℕ, length, ap, subst, sym}
use Rattle.graph_walks.specs.Edges.{edges_of}
use Rattle.graph_walks.proofs.EdgeLaws.{graph_size}
use Rattle.chain_ranges.specs.Spreads.{AreReachedSets, AreSeeded}
use Rattle.chain_ranges.proofs.SpreadLaws.{seeds_spread}
use Rattle.chain_ranges.proofs.blocks.block_sets.Goals as goal

pub returns : goal.returns
returns c =
    λ pairs are.
    let holders = edges_of c.args.holders.now in
    let block = c.args.block.now in
    let nodes = length c.args.edges.now in
    let seeds = c.seed.new.spread in
    let sets = c.follow.new.spread.sets.items in
    let same : c.into_sets.result.items ≡ sets = ap (λ v. v.items) c.into_sets.ensures in
    let seeded : AreSeeded holders block nodes (length block) seeds =
    subst (λ n. AreSeeded holders block n (length block) seeds) (c.in_ok-queue_all.ensures.size ∙ c.in_ok-spread.ensures.size) c.in_ok-seed.ensures in
    subst (λ (told : List ℕ). AreReachedSets pairs holders block nodes told) (sym same)
    (seeds_spread pairs holders (edges_of c.args.edges.now) block nodes seeds sets are (graph_size c.args.edges.now) seeded (c.in_ok-follow.ensures pairs are))
