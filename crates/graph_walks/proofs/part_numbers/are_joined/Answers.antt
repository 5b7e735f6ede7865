use Rattle.std.proofs.Common.{◌∙◌, List, ℕ, subst, sym}
use Rattle.graph_walks.specs.Parts.{AllReached}
use Rattle.graph_walks.specs.Walks.{AreWithin}
use Rattle.graph_walks.proofs.WalkLaws.{backwards_within}
use Rattle.graph_walks.proofs.part_numbers.are_joined.Goals as goal

pub all_reached-requires-2 : goal.all_reached-requires-2
all_reached-requires-2 c =
    subst (λ (pairs : List (ℕ × ℕ)). AreWithin c.args.nodes pairs) (sym (c.deref.ensures.value ∙ c.in_ok-turned.ensures)) (backwards_within c.args.nodes c.args.pairs.now c.requires)

pub returns-clause-forth : goal.returns-clause-forth
returns-clause-forth c = λ yes. c.in_ok-all_reached.ensures c.if-not-branch.false

pub returns-clause-back : goal.returns-clause-back
returns-clause-back c =
    λ yes.
    subst (λ (pairs : List (ℕ × ℕ)). AllReached c.args.nodes pairs c.args.roots.now) (c.deref.ensures.value ∙ c.in_ok-turned.ensures) (c.in_ok-all_reached-2.ensures yes)
