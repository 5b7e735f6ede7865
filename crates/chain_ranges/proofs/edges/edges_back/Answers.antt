use Rattle.std.proofs.Common.{◌≡◌, ◌<◌, ◌≤◌, List, ℕ, length, get_or, set, ap, ◌∙◌, subst, arith}
use Rattle.std.proofs.lemmas.List.{length-map, length-set, take_all}
use Rattle.std.proofs.lemmas.List.Elements.{Contains-get_or}
use Rattle.graph_walks.specs.Edges.{AreEdges, edges_of}
use Rattle.graph_walks.specs.Walks.{backwards}
use Rattle.chain_ranges.proofs.TurnedLaws.{one_more_turned}
use Rattle.chain_ranges.proofs.edges.edges_back.Goals as goal
use Rattle.chain_ranges.proofs.edges.edges_back.Goals.{in-Some+in_ok-push, in_default}

pub pairs-preserved : goal.pairs-preserved
pairs-preserved c =
    let pairs = c.args.pairs.now in
    let index = c.pairs.pair-index in
    let old = c.pairs.edges.items in
    elim c.match-get_mut.branch [
      | in-Some+in_ok-push w ↦
          let put : c.match-get_mut.edges.items ≡ set old (get_or pairs index (0, 0)).1 w.push.new.self = ap (λ v. v.items) w.edges-is in
          record {
            size = ap length put ∙ length-set old (get_or pairs index (0, 0)).1 w.push.new.self ∙ c.pairs.invariant.size;
            edges = one_more_turned c.args.nodes pairs index old c.match-get_mut.edges.items w.in-Some.before.now w.push.new.self c.requires c.pairs-test.true c.pairs.invariant.size c.pairs.invariant.edges w.in-Some.ensures.item.1 w.in_ok-push.ensures.items put;
          }
      | in_default w ↦
          let pair = get_or pairs index (0, 0) in
          let ends : pair.1 < c.args.nodes = (c.requires pair.0 pair.1 (Contains-get_or pairs index (0, 0) c.pairs-test.true)).1 in
          let past : length old ≤ (get_or pairs index (0, 0)).1 = w.in_default.ensures.item.3 in
          let size = c.pairs.invariant.size in
          absurd (omega arith)
    ]

pub returns-clause-edges : goal.returns-clause-edges
returns-clause-edges c =
    let edges = edges_of c.pairs.edges.items in
    let turned = backwards c.args.pairs.now in
    let end : length turned ≤ c.pairs.pair-index = (let past = c.pairs-test.false in let size : length turned ≡ length c.args.pairs.now = length-map c.args.pairs.now (λ (pair : ℕ × ℕ). (pair.1, pair.0)) in omega arith) in
    subst (λ (pairs : List (ℕ × ℕ)). AreEdges pairs edges) (take_all c.pairs.pair-index turned end) c.pairs.invariant.edges
