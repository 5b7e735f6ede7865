use Rattle.std.proofs.Common.{◌≡◌, ◌++◌, ◌∷◌, Bool, List, [], length, ℕ, subst, sym, rules}
use Rattle.graph_walks.specs.Marks.{MarkNumbers}
use Rattle.directed_graphs.specs.Cycles.{Leads, edges_of}
use Rattle.directed_graphs.specs.Reach.{AreReachCounts, CountsReached}
use Rattle.directed_graphs.proofs.CycleLaws.{graph_size}
use Rattle.directed_graphs.proofs.Reaching.{one_more_count}
use Rattle.directed_graphs.proofs.reach.reach_counts.Goals as goal

pub loop-node-preserved : goal.loop-node-preserved
loop-node-preserved c =
    let edges : List (List ℕ) = edges_of c.args.edges.now in
    let counts : List ℕ = c.loop-node.counts.items in
    let marks : List Bool = c.in_ok-marks.marks.items in
    let grown : c.push.new.self.items ≡ counts ++ c.count.result ∷ [] = search rules in
    let own : CountsReached edges c.loop-node.node c.count.result = record {
      marks = marks;
      each = subst (λ n. MarkNumbers n (Leads edges c.loop-node.node) marks) (sym (graph_size c.args.edges.now)) c.in_ok-marks.ensures;
      many = sym (search rules);
    } in
    let one : CountsReached edges (length counts) c.count.result =
    subst (λ n. CountsReached edges n c.count.result) (sym c.loop-node.invariant.nodes) own in record {
      nodes = search rules;
      reached = subst (AreReachCounts edges) (sym grown) (one_more_count edges counts c.count.result c.loop-node.invariant.reached one);
    }
