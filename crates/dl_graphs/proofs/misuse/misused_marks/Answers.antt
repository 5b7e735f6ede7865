use Rattle.std.proofs.Common.{◌≡◌, ◌<◌, ◌↔◌, ◌∙◌, ℕ, List, Bool, true, false, get_or, length, arith, rules, subst, sym}
use Rattle.graph_walks.proofs.MarkLaws.{pushed_at}
use Rattle.owl_arena.specs.Held.{tree_at}
use Rattle.dl_rules.specs.Local.{HasMisusedDatatype}
use Rattle.dl_graphs.proofs.misuse.misused_marks.Goals as goal

pub loop-place-preserved : goal.loop-place-preserved
loop-place-preserved c =
    let ts = c.args.arena.now.trees in
    let marks = c.loop-place.marks.items in
    let at : c.at.result ≡ length marks = c.at.ensures ∙ sym c.loop-place.invariant.size in
    record {
      size = search rules;
      told = λ axs known.
          let IsSo : ℕ → Bool → Type 0 = λ k b. (b ≡ true) ↔ HasMisusedDatatype axs (tree_at ts k) in
          let own : IsSo (length marks) c.has_misused.result = subst (λ (k : ℕ). IsSo k c.has_misused.result) at (c.has_misused.ensures axs known) in
          subst (λ (bs : List Bool). (k : ℕ) → k < length bs → IsSo k (get_or bs k false)) (sym c.in_ok-push.ensures.items)
          (pushed_at IsSo false marks c.has_misused.result (c.loop-place.invariant.told axs known) own);
    }

pub returns : goal.returns
returns c = λ axs known.
    let end : c.loop-place.place ≡ c.args.trees = (let past = c.loop-place-test.false in omega arith) in
    let size : length c.loop-place.marks.items ≡ c.args.trees = c.loop-place.invariant.size ∙ end in
    record {
      size = size;
      told = λ k h. c.loop-place.invariant.told axs known k (subst (λ (n : ℕ). k < n) (sym size) h);
    }
