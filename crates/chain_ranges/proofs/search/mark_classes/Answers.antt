use Rattle.std.proofs.Common.{◌≡◌, ◌++◌, ◌∙◌, [], List, ℕ, ap, append-nil, append_assoc, refl, rules, subst, sym, take}
use Rattle.std.proofs.lemmas.List.{nil_from_length, take-append-drop}
use Rattle.graph_walks.specs.Edges.{edges_of}
use Rattle.chain_ranges.specs.Marking.{AddsReaching}
use Rattle.chain_ranges.proofs.MarkingLaws.{both_added, nothing_added}
use Rattle.chain_ranges.proofs.search.mark_classes.Goals as goal

pub classes-init : goal.classes-init
classes-init c = record {
  done = [];
  whole = refl;
  adds = λ pairs are. nothing_added pairs (edges_of c.args.holders.now) c.args.chains.now c.args.marks.now;
}

pub classes-preserved : goal.classes-preserved
classes-preserved c =
    let holders = edges_of c.args.holders.now in
    let before = c.classes.invariant in
    let rest = c.classes.rest.now in
    let block = c.split_at.result.0.now in
    let others = c.split_at.result.1.now in
    let joined : block ++ others ≡ rest = ap (λ xs. xs ++ others) c.split_at.ensures.front ∙ ap (λ xs. take c.min.result rest ++ xs) c.split_at.ensures.back ∙ take-append-drop c.min.result rest in
    record {
      done = before.done ++ block;
      whole = append_assoc before.done block others ∙ ap (λ xs. before.done ++ xs) joined ∙ before.whole;
      adds = λ pairs are. both_added pairs holders c.args.chains.now before.done block c.args.marks.now c.classes.marks c.mark_block.new.marks (before.adds pairs are) (c.in_ok-mark_block.ensures pairs are);
    }

pub returns : goal.returns
returns c =
    λ pairs are.
    let before = c.classes.invariant in
    let none : c.classes.rest.now ≡ [] = nil_from_length c.classes.rest.now (search rules) in
    let whole : before.done ≡ c.args.classes.now = sym (append-nil before.done) ∙ ap (λ xs. before.done ++ xs) (sym none) ∙ before.whole in
    subst (λ (classes : List ℕ). AddsReaching pairs (edges_of c.args.holders.now) classes c.args.chains.now c.args.marks.now c.classes.marks) whole (before.adds pairs are)
