use Rattle.std.proofs.Common.{◌∙◌, ◌≤◌, length, subst, sym, arith, rules}
use Rattle.graph_walks.specs.Edges.{edges_of}
use Rattle.graph_walks.specs.Searches.{HoldsReached}
use Rattle.graph_walks.proofs.EdgeLaws.{graph_size}
use Rattle.graph_walks.proofs.Finding.{all_followed, none_followed, none_left, one_followed}
use Rattle.graph_walks.proofs.reach.found_from.Goals as goal
use Rattle.graph_walks.proofs.reach.found_from.Goals.{else-loop-place-test, then-loop-place-test+in-None}

pub loop-place-init : goal.loop-place-init
loop-place-init c =
    none_followed (edges_of c.args.edges.now) c.args.starts.now c.in_ok-found.found c.find_all.new.self c.in_ok-found.ensures.none
    (c.in_ok-found.ensures.graph ∙ sym (graph_size c.args.edges.now)) c.in_ok-find_all.ensures

pub loop-place-preserved : goal.loop-place-preserved
loop-place-preserved c =
    one_followed (edges_of c.args.edges.now) c.args.starts.now c.successors.result.now c.loop-place.found c.find_all-in-Some.new.self c.loop-place.place c.in-Some.from c.loop-place.invariant
    (search rules) c.successors.ensures c.in_ok-find_all-in-Some.ensures

pub returns-clause-found : goal.returns-clause-found
returns-clause-found c =
    λ pairs are.
    let edges = edges_of c.args.edges.now in
    let found = c.loop-place.found in
    let place = c.loop-place.place in
    let end : length found.nodes.items ≤ place = elim c.loop-place-test.branch [
      | else-loop-place-test w ↦
          let size = found.nodes.ok.0 in
          let fits = found.nodes.ok.1 in
          let small = found.nodes.small in
          let past = w.loop-place-test.false in
          omega arith
      | then-loop-place-test+in-None w ↦ none_left edges c.args.starts.now found place c.loop-place.invariant (search rules)
    ] in
    subst (λ n. HoldsReached n pairs c.args.starts.now found.nodes.items) (graph_size c.args.edges.now) (all_followed edges c.args.starts.now found place c.loop-place.invariant end pairs are)
