use Rattle.std.proofs.Common.{◌∙◌, List, [], ◌∷◌, ℕ, Bool, subst, sym}
use Rattle.graph_walks.specs.Marks.{MarkNumbers}
use Rattle.graph_walks.specs.Walks.{AreWithin, IsReached, backwards}
use Rattle.graph_walks.proofs.Parting.{least_by_marks}
use Rattle.graph_walks.proofs.WalkLaws.{backwards_within}
use Rattle.graph_walks.proofs.least.least_with.Goals as goal

pub reached-requires-2 : goal.reached-requires-2
reached-requires-2 c =
    subst (λ (pairs : List (ℕ × ℕ)). AreWithin c.args.nodes pairs) (sym (c.deref.ensures.value ∙ c.in_ok-turned.ensures)) (backwards_within c.args.nodes c.args.pairs.now c.requires.pairs)

pub returns : goal.returns
returns c =
    let nodes = c.args.nodes in
    let node = c.args.node in
    let pairs = c.args.pairs.now in
    let ahead : MarkNumbers nodes (IsReached pairs (node ∷ [])) c.deref-2.result.now = subst (λ (marks : List Bool). MarkNumbers nodes (IsReached pairs (node ∷ [])) marks) (sym c.deref-2.ensures.value) c.in_ok-forth.ensures in
    let found : MarkNumbers nodes (IsReached (backwards pairs) (node ∷ [])) c.in_ok-back.back.items =
    subst (λ (ps : List (ℕ × ℕ)). MarkNumbers nodes (IsReached ps (node ∷ [])) c.in_ok-back.back.items) (c.deref.ensures.value ∙ c.in_ok-turned.ensures) c.in_ok-back.ensures in
    let behind : MarkNumbers nodes (IsReached (backwards pairs) (node ∷ [])) c.deref-3.result.now = subst (λ (marks : List Bool). MarkNumbers nodes (IsReached (backwards pairs) (node ∷ [])) marks) (sym c.deref-3.ensures.value) found in
    least_by_marks pairs nodes node c.first_of_both.result c.deref-2.result.now c.deref-3.result.now c.requires.node ahead behind c.first_of_both.ensures
