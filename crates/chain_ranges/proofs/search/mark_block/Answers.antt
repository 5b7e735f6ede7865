use Rattle.std.proofs.Common.{List, ℕ, length, subst, sym}
use Rattle.graph_walks.specs.Edges.{edges_of}
use Rattle.chain_ranges.specs.Spreads.{AreReachedSets}
use Rattle.chain_ranges.proofs.MarkingLaws.{reaching_added}
use Rattle.chain_ranges.proofs.search.mark_block.Goals as goal

pub returns : goal.returns
returns c =
    λ pairs are.
    let holders = edges_of c.args.holders.now in
    let block = c.args.block.now in
    let nodes = length c.args.below.now in
    let told : AreReachedSets pairs holders block nodes c.deref.result.now =
    subst (λ (sets : List ℕ). AreReachedSets pairs holders block nodes sets) (sym c.deref.ensures.value) (c.in_ok-imposed.ensures pairs are) in
    reaching_added pairs holders c.args.chains.now block nodes c.deref.result.now c.args.marks.now c.mark_lacking.new.marks c.requires.chains told c.mark_lacking.auto.marks c.mark_lacking.ensures
