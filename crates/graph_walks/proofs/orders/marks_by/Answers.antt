use Rattle.std.proofs.Common.{◌≡◌, ◌<◌, ◌↔◌, ◌++◌, ◌∷◌, ℕ, Bool, List, [], true, false, length, get_or, sym, subst, rules}
use Rattle.std.proofs.lemmas.List.Elements.{Contains-get_or}
use Rattle.graph_walks.specs.Faults.{IsFault}
use Rattle.graph_walks.proofs.MarkLaws.{marks_at, pushed_at}
use Rattle.graph_walks.proofs.orders.marks_by.Goals as goal

-- the mark of each place says whether its pair is a fault
abbrev IsTold : List (ℕ × ℕ) → List (ℕ × ℕ) → ℕ → Bool → Type 0
IsTold leads below k mark = (mark ≡ true) ↔ IsFault leads below (get_or below k (0, 0)).0 (get_or below k (0, 0)).1

pub pairs-preserved : goal.pairs-preserved
pairs-preserved c =
    let below = c.args.below.now in
    let index = c.pairs.pair-index in
    let marks = c.pairs.marks.items in
    let grown : c.push.new.self.items ≡ marks ++ c.in_ok-fault.fault ∷ [] = search rules in
    record {
      size = search rules;
      told = λ leads ways.
          let own : IsTold leads below index c.in_ok-fault.fault = c.in_ok-fault.ensures leads below ways (Contains-get_or below index (0, 0) c.pairs-test.true) in
          let one : IsTold leads below (length marks) c.in_ok-fault.fault = subst (λ n. IsTold leads below n c.in_ok-fault.fault) (sym c.pairs.invariant.size) own in
          subst (λ (ms : List Bool). (k : ℕ) → k < length ms → IsTold leads below k (get_or ms k false)) (sym grown) (pushed_at (IsTold leads below) false marks c.in_ok-fault.fault (c.pairs.invariant.told leads ways) one);
    }

pub returns : goal.returns
returns c =
    λ leads ways.
    let below = c.args.below.now in
    let marks = c.pairs.marks.items in
    let size : length marks ≡ length below = search rules in
    marks_at (λ (place : ℕ) (pair : ℕ × ℕ). IsFault leads below pair.0 pair.1) (0, 0) below marks size (λ k within. c.pairs.invariant.told leads ways k (subst (λ n. k < n) (sym size) within))
