use Rattle.std.proofs.Common.{◌≡◌, ℕ, List, rules, subst}
use Rattle.std.specs.List.Sorted.{IsStable}
use Rattle.std.specs.Ordering.{is_lt}
use Rattle.std.proofs.lemmas.Fn.{always_returns_same}
use Rattle.std.proofs.lemmas.List.Sorted.{ranks_by}
use Rattle.rdf_forward.specs.BareOrder.{numbers_cmp}
use Rattle.rdf_forward.proofs.Sorting.{numbers_total}
use Rattle.rdf_forward.proofs.groups.sorted.Goals as goal

pub returns : goal.returns
returns c =
    let trees = c.args.arena.now.trees in
    let copied : c.in_ok-ids.ids.items ≡ c.args.axioms.now = search rules in
    let order = ranks_by (numbers_total trees) (λ a. a) in
    record {
      moved = search rules;
      sorted = c.in_ok-sort_by.ensures.sorted (λ a b. is_lt (numbers_cmp trees a b)) order (always_returns_same _ _ _ (λ a r g k. search rules));
      stable = subst (λ (ids : List ℕ). IsStable (numbers_cmp trees) ids c.sort_by.new.self.items) copied
          (c.in_ok-sort_by.ensures.stable (λ a b. is_lt (numbers_cmp trees a b)) order (always_returns_same _ _ _ (λ a r g k. search rules)));
    }
