use Rattle.std.proofs.Common.{◌≡◌, ◌∙◌, List, ℕ, Bool, map, ap, subst, sym}
use Rattle.graph_walks.specs.Marks.{MarkEach}
use Rattle.graph_walks.specs.Parts.{is_level}
use Rattle.graph_walks.specs.Walks.{Walks}
use Rattle.graph_walks.proofs.FaultLaws.{cycle_marks}
use Rattle.graph_walks.proofs.cycles.cycle_pairs.Goals as goal

pub returns : goal.returns
returns c =
    let pairs = c.args.pairs.now in
    let same : c.in_ok-level_marks.field-0.items ≡ map (is_level c.in_ok-numbers.numbers.items) pairs = c.in_ok-level_marks.ensures ∙ ap (λ (numbers : List ℕ). map (is_level numbers) pairs) c.deref.ensures.value in
    subst (λ (marks : List Bool). MarkEach (λ (place : ℕ) (pair : ℕ × ℕ). Walks pairs pair.1 pair.0) pairs marks) (sym same) (cycle_marks c.args.nodes pairs c.in_ok-numbers.numbers.items c.requires c.in_ok-numbers.ensures)
