use Rattle.std.proofs.Common.{◌∙◌, List, ℕ, subst, sym}
use Rattle.std.specs.Prelude.{IfOk}
use Rattle.graph_walks.specs.Parts.{AreParts}
use Rattle.graph_walks.specs.Walks.{AreWithin}
use Rattle.graph_walks.proofs.WalkLaws.{together_within}
use Rattle.graph_walks.proofs.orders.joint_parts.Goals as goal

pub parts-requires : goal.parts-requires
parts-requires c =
    subst (λ (pairs : List (ℕ × ℕ)). AreWithin c.args.nodes pairs) (sym (c.deref.ensures.value ∙ c.in_ok-all.ensures)) (together_within c.args.nodes c.args.leads.now c.args.below.now c.requires.leads c.requires.below)

pub returns : goal.returns
returns c =
    subst (λ (pairs : List (ℕ × ℕ)). IfOk c.parts.result (λ numbers. AreParts c.args.nodes pairs numbers.items)) (c.deref.ensures.value ∙ c.in_ok-all.ensures) c.parts.ensures
