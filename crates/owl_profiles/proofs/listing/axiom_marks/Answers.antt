use Rattle.std.proofs.Common.{◌≡◌, ◌<◌, ◌↔◌, ◌++◌, ◌∷◌, ℕ, Bool, List, [], false, length, get_or, sym, ◌∙◌, subst, arith, rules}
use Rattle.std.specs.Prelude.{IsTrue}
use Rattle.std.proofs.lemmas.Grind.{get_or_default_zero}
use Rattle.std.proofs.lemmas.List.{get_or-map, length-map}
use Rattle.owl_profiles.specs.Rules.{BreaksIt}
use Rattle.graph_walks.proofs.MarkLaws.{marks_at, pushed_at}
use Rattle.owl_arena.specs.Held.{tree_at, trees_at}
use Rattle.owl_doc.specs.Parts.{of_axiom}
use Rattle.owl_tree.specs.Trees.{Tree}
use Rattle.owl_profiles.specs.Facts.{closure_in}
use Rattle.owl_profiles.proofs.listing.axiom_marks.Goals as goal

pub axioms-preserved : goal.axioms-preserved
axioms-preserved c =
    let ids = c.args.axioms.now in
    let ts = c.args.facts.now.arena.now.trees in
    let marks = c.axioms.marks.items in
    let mark = c.breaks.result in
    let same : c.id-item.result ≡ get_or ids c.axioms.id-index 0 = c.id-item.is ∙ get_or_default_zero ids c.axioms.id-index c.id-item.result c.axioms-test.true in
    let grown : c.push.new.self.items ≡ marks ++ mark ∷ [] = search rules in
    record {
      size = search rules;
      told = λ o.
          let IsTold = λ (k : ℕ) (m : Bool). IsTrue m ↔ BreaksIt (closure_in c.args.facts.now) c.args.rule o (of_axiom (tree_at ts (get_or ids k 0))) in
          let own : IsTold c.axioms.id-index mark =
          subst (λ (id : ℕ). IsTrue mark ↔ BreaksIt (closure_in c.args.facts.now) c.args.rule o (of_axiom (tree_at ts id))) same (c.breaks.ensures o) in
          let one : IsTold (length marks) mark = subst (λ (k : ℕ). IsTold k mark) (sym c.axioms.invariant.size) own in
          subst (λ (ms : List Bool). (k : ℕ) → k < length ms → IsTold k (get_or ms k false)) (sym grown) (pushed_at IsTold false marks mark (c.axioms.invariant.told o) one);
    }

pub returns : goal.returns
returns c = λ o.
    let ids = c.args.axioms.now in
    let ts = c.args.facts.now.arena.now.trees in
    let marks = c.axioms.marks.items in
    let IsSo = λ (t : Tree). BreaksIt (closure_in c.args.facts.now) c.args.rule o (of_axiom t) in
    let d = tree_at ts 0 in
    let size : length marks ≡ length ids = search rules in
    marks_at (λ (_ : ℕ) (t : Tree). IsSo t) d (trees_at ts ids) marks (size ∙ sym (length-map ids (tree_at ts)))
    (λ k within.
    let inside : k < length ids = omega (arith, length-map ids (tree_at ts)) in
    let reads : get_or (trees_at ts ids) k d ≡ tree_at ts (get_or ids k 0) = get_or-map (tree_at ts) ids k 0 d inside in
    subst (λ (t : Tree). IsTrue (get_or marks k false) ↔ IsSo t) (sym reads) (c.axioms.invariant.told o k (subst (λ n. k < n) (sym size) inside)))
