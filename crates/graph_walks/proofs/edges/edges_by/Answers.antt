use Rattle.std.proofs.Common.{◌≡◌, ◌≤◌, List, ℕ, length, get_or, set, ap, ◌∙◌, subst, arith}
use Rattle.std.proofs.lemmas.List.{length-set, take_all}
use Rattle.graph_walks.specs.Edges.{AreEdges, edges_of}
use Rattle.graph_walks.proofs.EdgeLaws.{begins_inside, one_more_pair}
use Rattle.graph_walks.proofs.edges.edges_by.Goals as goal
use Rattle.graph_walks.proofs.edges.edges_by.Goals.{in-Some+in_ok-push, in_default}

pub pairs-preserved : goal.pairs-preserved
pairs-preserved c =
    let pairs = c.args.pairs.now in
    let index = c.pairs.pair-index in
    let old = c.pairs.edges.items in
    elim c.match-get_mut.branch [
      | in-Some+in_ok-push w ↦
          let put : c.match-get_mut.edges.items ≡ set old (get_or pairs index (0, 0)).0 w.push.new.self = ap (λ v. v.items) w.edges-is in
          record {
            size = ap length put ∙ length-set old (get_or pairs index (0, 0)).0 w.push.new.self ∙ c.pairs.invariant.size;
            edges = one_more_pair c.args.nodes pairs index old c.match-get_mut.edges.items w.in-Some.nexts.now w.push.new.self c.requires c.pairs-test.true c.pairs.invariant.size c.pairs.invariant.edges w.in-Some.ensures.item.1 w.in_ok-push.ensures.items put;
          }
      | in_default w ↦
          let begins = begins_inside c.args.nodes pairs index c.requires c.pairs-test.true in
          let past : length old ≤ (get_or pairs index (0, 0)).0 = w.in_default.ensures.item.3 in
          let size = c.pairs.invariant.size in
          absurd (omega arith)
    ]

pub returns-clause-edges : goal.returns-clause-edges
returns-clause-edges c =
    let edges = edges_of c.pairs.edges.items in
    let end : length c.args.pairs.now ≤ c.pairs.pair-index = (let past = c.pairs-test.false in omega arith) in
    subst (λ (pairs : List (ℕ × ℕ)). AreEdges pairs edges) (take_all c.pairs.pair-index c.args.pairs.now end) c.pairs.invariant.edges
