use Rattle.std.proofs.Common.{◌≡◌, ◌++◌, ◌∙◌, ℕ, Bool, false, List, length, replicate, take, drop, ap, subst, sym, rules}
use Rattle.std.proofs.Math.Seq.{take-append_seam}
use Rattle.graph_walks.specs.Edges.{AreEdges, edges_of}
use Rattle.graph_walks.specs.Marks.{MarkEach}
use Rattle.graph_walks.specs.Walks.{AreWithin, backwards}
use Rattle.owl_list.specs.Ascending.{HoldSame}
use Rattle.std.specs.Prelude.{map}
use Rattle.chain_ranges.specs.Imposed.{LacksRange}
use Rattle.chain_ranges.specs.Marking.{AddsReaching}
use Rattle.chain_ranges.proofs.MarkingLaws.{all_marked}
use Rattle.chain_ranges.proofs.search.lacking_chains.Goals as goal

pub mark_classes-requires-clause-chains : goal.mark_classes-requires-clause-chains
mark_classes-requires-clause-chains c =
    let size : length c.deref-2.result.now ≡ c.args.count = ap length c.deref-2.ensures.value ∙ c.in_ok-below.ensures.size in
    subst (λ n. AreWithin n c.args.chains.now) (sym size) c.requires.chains

pub returns : goal.returns
returns c =
    let steps = c.args.steps.now in
    let ranges = c.args.ranges.now in
    let chains = c.args.chains.now in
    let old = c.in_ok-marks.marks.items in
    let new = c.mark_classes.new.marks in
    let none : old ≡ replicate (length chains) false = search rules in
    let below : AreEdges (backwards steps) (edges_of c.deref-2.result.now) =
    subst (λ lists. AreEdges (backwards steps) (edges_of lists)) (sym c.deref-2.ensures.value) c.in_ok-below.ensures.edges in
    let holders : AreEdges (backwards ranges) (edges_of c.deref-4.result.now) =
    subst (λ lists. AreEdges (backwards ranges) (edges_of lists)) (sym c.deref-4.ensures.value) c.in_ok-holders.ensures.edges in
    let classes : HoldSame c.deref-5.result.now (map (λ (range : ℕ × ℕ). range.1) ranges) =
    subst (λ (these : List ℕ). HoldSame these (map (λ (range : ℕ × ℕ). range.1) ranges)) (sym c.deref-5.ensures.value) c.in_ok-classes.ensures in
    let adds : AddsReaching (backwards steps) (edges_of c.deref-4.result.now) c.deref-5.result.now chains old new =
    subst (λ (marks : List Bool). AddsReaching (backwards steps) (edges_of c.deref-4.result.now) c.deref-5.result.now chains marks new) c.deref_mut.ensures.value (c.in_ok-mark_classes.ensures (backwards steps) below) in
    let whole : take c.in_ok-marks.marks.len (new ++ drop (length new) old) ≡ new =
    ap (λ k. take k (new ++ drop (length new) old)) (sym (c.mark_classes.auto.marks ∙ c.deref_mut.ensures.len)) ∙ take-append_seam new (drop (length new) old) in
    subst (MarkEach (λ (_ : ℕ) (chain : ℕ × ℕ). LacksRange steps ranges chain.0 chain.1) chains) (sym whole)
    (all_marked steps ranges chains (edges_of c.deref-4.result.now) c.deref-5.result.now old new holders classes none adds)
