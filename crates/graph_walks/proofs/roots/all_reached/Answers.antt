use Rattle.std.proofs.Common.{◌≡◌, ◌<◌, ℕ, Bool, true, false, List, length, get_or, subst}
use Rattle.graph_walks.proofs.Parting.{all_by_marks}
use Rattle.graph_walks.proofs.roots.all_reached.Goals as goal

pub returns : goal.returns
returns c =
    λ yes.
    all_by_marks c.args.nodes c.args.pairs.now c.args.starts.now c.in_ok-marks.marks.items c.in_ok-marks.ensures
    (subst (λ (marks : List Bool). (place : ℕ) → place < length marks → get_or marks place false ≡ true) c.deref.ensures.value (c.all_marked.ensures.0 yes))
