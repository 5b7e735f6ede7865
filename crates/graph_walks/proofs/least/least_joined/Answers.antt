use Rattle.std.proofs.Common.{◌≡◌, ◌<◌, ◌++◌, ◌∷◌, ℕ, List, [], length, sym, subst, rules}
use Rattle.std.specs.Prelude.{slice_index}
use Rattle.graph_walks.specs.Parts.{IsLeast}
use Rattle.graph_walks.proofs.MarkLaws.{pushed_at}
use Rattle.graph_walks.proofs.Parting.{parts_by_least}
use Rattle.graph_walks.proofs.least.least_joined.Goals as goal

pub loop-node-preserved : goal.loop-node-preserved
loop-node-preserved c =
    let pairs = c.args.pairs.now in
    let numbers = c.loop-node.numbers.items in
    let grown : c.push.new.self.items ≡ numbers ++ c.in_ok-least.least ∷ [] = search rules in
    let one : IsLeast pairs (length numbers) c.in_ok-least.least = subst (λ n. IsLeast pairs n c.in_ok-least.least) (sym c.loop-node.invariant.size) c.in_ok-least.ensures in
    record {
      size = search rules;
      least = subst (λ (ns : List ℕ). (x : ℕ) → x < length ns → IsLeast pairs x (slice_index ns x)) (sym grown) (pushed_at (IsLeast pairs) 0 numbers c.in_ok-least.least c.loop-node.invariant.least one);
    }

pub returns : goal.returns
returns c =
    let numbers = c.loop-node.numbers.items in
    let size : length numbers ≡ c.args.nodes = search rules in
    parts_by_least c.args.pairs.now c.args.nodes numbers size (λ x within. c.loop-node.invariant.least x (subst (λ n. x < n) (sym size) within))
